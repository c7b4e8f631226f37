-- Easy nodes are refused for the class texts that are written out with them, and for nothing else.
use Rattle.std.proofs.Common.{◌≡◌, ℕ, zero, suc, Bool, true, false, List, [], ◌∷◌, map, Option, Some, None, inl, inr, nat_lt, codes, true≢false, refl, sym, ap, ◌∙◌, subst, arith, ltb-false}
use Rattle.fancy_meaning.specs.Tree.{Tree, Trees, none, more, trees, Empty, Any, Assert, Literal, Delegate, Concat, Alt, Group, Repeat, DefineGroup}
use Rattle.fancy_meaning.specs.AnalysisRefusals as refusal
use Rattle.fancy_meaning.specs.Batches.{all_joined, each_literal, literal_chars, pattern_of}
use Rattle.fancy_meaning.specs.Code.{Code, Laid}
use Rattle.fancy_meaning.specs.CompileRefusals.{IsAmong, here, there, written_parts, IsWritten, root, part, absent_other, no_class}
use Rattle.fancy_meaning.specs.Options.{Analysis}
use Rattle.fancy_meaning.specs.OpenCalls.{Depths}
use Rattle.fancy_meaning.specs.PatternText.{text_of, each_text, joined, wrapped_if}
use Rattle.fancy_meaning.specs.WellFormed.{IsFine}
use Rattle.fancy_composed.proofs.Written.{written_is_node}
use Rattle.fancy_delegation.proofs.EasyNodes as easy
use Rattle.fancy_delegation.proofs.EasyNodes.{AllEasy, easy_alt, easy_concat, easy_each, easy_group, easy_repeat}
use Rattle.fancy_headline.proofs.Literals.{Chars, joined_parts}
use Rattle.fancy_headline.proofs.Nameless.{front_none, each_none, wrapped_some, group_some}
use Rattle.fancy_characters.specs.Classes.{IsClassRefusal}
use Rattle.fancy_expr.specs.declared.error.CompileError.TheVariants as code
use Rattle.fancy_expr.specs.declared.error.Error.{Error}
use Rattle.fancy_expr.specs.declared.error.Error.TheVariants as error
use Rattle.fancy_expr.specs.Each.{Each}
use Rattle.fancy_info.specs.declared.info.Info.{Info}
use Rattle.fancy_info.specs.Infos.{info_tree}
use Rattle.fancy_nfa.specs.ClassTexts as classes
use Rattle.fancy_nfa.specs.ClassTexts.{HasClass, AreClasses, texts_of, texts_in}
use Rattle.fancy_nfa.specs.Neighbours.{IsEasy, trees_of}
use Rattle.fancy_nfa.specs.Nfas.{AreFine, HaveClasses, IsRefusedFor}
use Rattle.fancy_code.specs.Sites.{Site}
use Rattle.fancy_code.specs.Faults.{IsBelow, itself, below, through, Rejects, MayReject, rejected, too_big, refused, out_of_range, refused_as, StayWithin, AreCompilable, HasRejected}
use Rattle.fancy_code.specs.Drafts.{Draft, Breaks, Writes}
use Rattle.fancy_code.proofs.Collected.{each_literal_of}
use Rattle.fancy_code.proofs.Writing.{adds_to}
use Rattle.fancy_code.proofs.Written.{safe_fine}

-- ---- what is written out with an easy node is easy

module _ (a : Analysis) where
  among_easy : (es : Trees) (c : Tree) → AllEasy a es → IsAmong c es → easy.IsEasy a c
  among_easy none c h i = elim i [ ]
  among_easy (more e es) c h here = (easy_each a e es h).0
  among_easy (more e es) c h (there i) = among_easy es c (easy_each a e es h).1 i

  only_easy : (e c : Tree) → easy.IsEasy a e → IsAmong c (more e none) → easy.IsEasy a c
  only_easy e c h here = h
  only_easy e c h (there i) = elim i [ ]

  loop_easy : (lo : ℕ) (hi : Option ℕ) (greedy : Bool) (e c : Tree) → easy.IsEasy a e → IsAmong c (written_parts (Repeat lo hi greedy e)) → easy.IsEasy a c
  loop_easy lo None greedy e c h i = only_easy e c h i
  loop_easy lo (Some zero) greedy e c h i = elim i [ ]
  loop_easy lo (Some (suc n)) greedy e c h i = only_easy e c h i

  pub easy_part : (e c : Tree) → easy.IsEasy a e → IsAmong c (written_parts e) → easy.IsEasy a c
  easy_part (Concat es) c h i = among_easy es c (easy_concat a es h) i
  easy_part (Alt es) c h i = among_easy es c (easy_alt a es h) i
  easy_part (Group g e) c h i = only_easy e c (easy_group a g e h).1 i
  easy_part (Repeat lo hi greedy e) c h i = loop_easy lo hi greedy e c (easy_repeat a lo hi greedy e h) i
  easy_part Empty c h i = elim i [ ]
  easy_part (Any newline crlf) c h i = elim i [ ]
  easy_part (Assert w x) c h i = elim i [ ]
  easy_part (Literal x casei) c h i = elim i [ ]
  easy_part (Delegate inner casei) c h i = elim i [ ]
  easy_part (DefineGroup e) c h i = elim i [ ]
  easy_part e c h i = cc

-- ---- easy nodes whose class texts are classes

module _ (p : Site) where
  not_rejected : (e : Tree) → easy.IsEasy p.analysis e → AreClasses p.unicode (texts_of e) → (x : refusal.CompileError) → ¬ Rejects p.plan e x
  not_rejected (Delegate inner casei) h g x (refused (absent_other i n)) = true≢false (sym i)
  not_rejected (Delegate inner casei) h g x (refused (no_class i)) = true≢false (sym (g inner casei classes.itself) ∙ i)
  not_rejected (Delegate inner casei) h g x (out_of_range i) = true≢false (sym i)
  not_rejected Empty h g x r = (safe_fine p Empty refl refl).0 x r
  not_rejected (Any newline crlf) h g x r = (safe_fine p (Any newline crlf) refl refl).0 x r
  not_rejected (Assert w a) h g x r = (safe_fine p (Assert w a) refl refl).0 x r
  not_rejected (Literal c casei) h g x r = (safe_fine p (Literal c casei) refl refl).0 x r
  not_rejected (Concat es) h g x r = (safe_fine p (Concat es) refl refl).0 x r
  not_rejected (Alt es) h g x r = (safe_fine p (Alt es) refl refl).0 x r
  not_rejected (Group n e) h g x r = (safe_fine p (Group n e) refl refl).0 x r
  not_rejected (Repeat lo hi greedy e) h g x r = (safe_fine p (Repeat lo hi greedy e) refl refl).0 x r
  not_rejected (DefineGroup e) h g x r = (safe_fine p (DefineGroup e) refl refl).0 x r
  not_rejected e h g x r = cc

  none_rejected : {calls : Depths} {d e : Tree} → IsBelow p.analysis.tree calls d e → easy.IsEasy p.analysis d → AreClasses p.unicode (texts_of d)
      → (x : refusal.CompileError) → ¬ Rejects p.plan e x
  none_rejected {e = e} itself h g x r = not_rejected e h g x r
  none_rejected (below {d = d} {c = c} i b) h g x r =
      none_rejected b (easy_part p.analysis d c h i) (λ inner casei t. g inner casei (classes.below i t)) x r
  none_rejected (through lt at b) h g x r = true≢false h

  all_compilable : (is : List Info) → Each (IsEasy p.analysis) is → HaveClasses p.unicode is → StayWithin p (map info_tree is)
      → AreCompilable p (map info_tree is)
  all_compilable [] h g room = tt
  all_compilable (i ∷ is) h g room = (
    (λ d b x r. none_rejected b h.0.easy (λ inner casei t. g inner casei (info_tree i, (here, t))) x r, room.0),
    all_compilable is h.1 (λ inner casei t. g inner casei (t.0, (there t.1.0, t.1.1))) room.1,
  )

  -- what is written is that of easy nodes
  pub wrote_easy : (is : List Info) → Each (IsEasy p.analysis) is → HaveClasses p.unicode is → StayWithin p (map info_tree is) → (k : Code) (s t : Draft)
      → Writes p k [] s t → Writes p k (map info_tree is) s t
  wrote_easy is h g room k s t w =
      adds_to p p _ _ [] (map info_tree is) s t t (omega arith) (λ x. x) (λ a. all_compilable is h g room) (λ x r. absurd r) w refl refl

  -- ---- a class text that is refused

  class_below : {calls : Depths} {inner : List ℕ} {casei : Bool} (e : Tree) → HasClass inner casei e → IsBelow p.analysis.tree calls e (Delegate inner casei)
  class_below e classes.itself = itself
  class_below e (classes.below {c = c} i h) = below i (class_below c h)

  class_rejected : (inner : List ℕ) (casei : Bool) (es : List Tree) (e : Tree) → IsAmong e (trees es) → HasClass inner casei e
      → (x : refusal.CompileError) → MayReject p.plan (Delegate inner casei) x → HasRejected p es (refused_as x)
  class_rejected inner casei [] e i h x r = elim i [ ]
  class_rejected inner casei (d ∷ es) e here h x r = inl (record { node = Delegate inner casei; is_below = class_below e h; rejects = r })
  class_rejected inner casei (d ∷ es) e (there i) h x r = inr (class_rejected inner casei es e i h x r)

  module _ (a : Laid) (es : List Tree) (s : Draft) where
    class_breaks : (inner : List ℕ) (casei : Bool) → ((x : refusal.CompileError) → MayReject p.plan (Delegate inner casei) x → HasRejected p es (refused_as x))
        → (x : Error) → IsClassRefusal p.unicode inner casei x → Breaks p a es s x
    class_breaks inner casei g error.Memory h = tt
    class_breaks inner casei g (error.CompileError (code.InnerError text)) h =
        inr (subst (λ l. HasRejected p es (refused_as (refusal.InnerError l))) (sym h.0) (g (refusal.InnerError inner) (rejected (refused (no_class h.1)))))
    class_breaks inner casei g (error.CompileError (code.ClassTooBig text)) h =
        inr (subst (λ l. HasRejected p es (refused_as (refusal.ClassTooBig l))) (sym h.0) (g (refusal.ClassTooBig inner) too_big))
    class_breaks inner casei g (error.CompileError x) h = absurd h
    class_breaks inner casei g (error.RuntimeError x) h = h
    class_breaks inner casei g (error.TreeFault at) h = h
    class_breaks inner casei g error.NestLimitExceeded h = absurd h

  -- why easy nodes are not written
  pub refused_easy : (is : List Info) (a : Laid) (s : Draft) (x : Error) → IsRefusedFor p.unicode is x → Breaks p a (map info_tree is) s x
  refused_easy is a s x (inl same) = subst (Breaks p a (map info_tree is) s) (sym same) tt
  refused_easy is a s x (inr h) =
      class_breaks a (map info_tree is) s h.0 h.1.0 (class_rejected h.0 h.1.0 (map info_tree is) h.1.1.0.0 h.1.1.0.1.0 h.1.1.0.1.1) x h.1.1.1

-- ---- literal nodes have no class

module _ (inner : List ℕ) (casei : Bool) where
  mutual
    literal_classless : (e : Tree) (cs : Chars) → literal_chars e ≡ Some cs → ¬ HasClass inner casei e
    literal_classless (Literal c k) cs h (classes.below i t) = elim i [ ]
    literal_classless (Concat es) cs h (classes.below {c = c} i t) = literals_classless es cs h c i t
    literal_classless e cs h t = cc

    literals_classless : (es : Trees) (cs : Chars) → all_joined (each_literal es) ≡ Some cs → (c : Tree) → IsAmong c es → ¬ HasClass inner casei c
    literals_classless none cs h c i t = elim i [ ]
    literals_classless (more e es) cs h c here t =
        let q = joined_parts (literal_chars e) (each_literal es) cs h in
        literal_classless e q.0 q.2 t
    literals_classless (more e es) cs h c (there i) t =
        let q = joined_parts (literal_chars e) (each_literal es) cs h in
        literals_classless es q.1 q.3 c i t

pub literal_classes : (unicode : Bool) (is : List Info) (cs : Chars) → all_joined (map literal_chars (map info_tree is)) ≡ Some cs → HaveClasses unicode is
literal_classes unicode is cs h inner casei t =
    absurd (literals_classless inner casei (trees_of is) cs (ap all_joined (each_literal_of (map info_tree is)) ∙ h) t.0 t.1.0 t.1.1)

-- ---- nodes without a text have no class

class_some : (inner : List ℕ) (casei : Bool) → ¬ (inner ≡ []) → wrapped_if casei "(?i:" inner ≡ [] → ⊥
class_some inner true some e = cc
class_some inner false some e = some e

fine_some : (inner : List ℕ) (casei : Bool) → IsFine (Delegate inner casei) → ¬ (inner ≡ [])
fine_some [] casei fine e = fine
fine_some (c ∷ cs) casei fine e = cc

each_text_of : (es : List Tree) (n : ℕ) → each_text (trees es) n ≡ map (λ e. text_of e n) es
each_text_of [] n = refl
each_text_of (e ∷ es) n = ap (λ l. text_of e n ∷ l) (each_text_of es n)

module _ (inner : List ℕ) (casei : Bool) where
  -- the class is one of the node's
  class_node : (whole e : Tree) → IsWritten whole e → HasClass inner casei e → IsWritten whole (Delegate inner casei)
  class_node whole e w classes.itself = w
  class_node whole e w (classes.below {c = c} i t) = class_node whole c (part w i) t

  fine_class : (is : List Tree) (e : Tree) → AreFine is → IsAmong e (trees is) → HasClass inner casei e → ¬ (inner ≡ [])
  fine_class [] e h i t = elim i [ ]
  fine_class (d ∷ ds) e h here t = fine_some inner casei (h.0 (Delegate inner casei) (written_is_node e (Delegate inner casei) (class_node e e root t)))
  fine_class (d ∷ ds) e h (there i) t = fine_class ds e h.1 i t

  module _ (a : Analysis) (some : ¬ (inner ≡ [])) where
    loop_text : (lo : ℕ) (hi : Option ℕ) (greedy : Bool) (e c : Tree) → IsAmong c (written_parts (Repeat lo hi greedy e)) → e ≡ c
    loop_text lo None greedy e c here = refl
    loop_text lo None greedy e c (there i) = elim i [ ]
    loop_text lo (Some zero) greedy e c i = elim i [ ]
    loop_text lo (Some (suc n)) greedy e c here = refl
    loop_text lo (Some (suc n)) greedy e c (there i) = elim i [ ]

    mutual
      textless : (e : Tree) (n : ℕ) → easy.IsEasy a e → text_of e (suc n) ≡ [] → ¬ HasClass inner casei e
      textless (Delegate i k) n h e classes.itself = class_some inner casei some e
      textless (Delegate i k) n h e (classes.below m t) = elim m [ ]
      textless (Concat es) n h e (classes.below {c = c} i t) =
          all_textless es (easy_concat a es h) 1 (wrapped_some (nat_lt 1 (suc n)) (joined [] (each_text es 2)) e).1 c i t
      textless (Alt es) n h e (classes.below i t) =
          let low = ltb-false 0 (suc n) (wrapped_some (nat_lt 0 (suc n)) (joined (codes "|") (each_text es 1)) e).0 in
          absurd (omega (arith, low))
      textless (Group g d) n h e (classes.below i t) = group_some (text_of d 0) e
      textless (Repeat lo hi greedy d) n h e (classes.below {c = c} i t) =
          let inside = front_none (text_of d 3) _ (wrapped_some (nat_lt 2 (suc n)) _ e).1 in
          textless d 2 (easy_repeat a lo hi greedy d h) inside (subst (HasClass inner casei) (sym (loop_text lo hi greedy d c i)) t)
      textless Empty n h e (classes.below i t) = elim i [ ]
      textless (Any newline crlf) n h e (classes.below i t) = elim i [ ]
      textless (Assert w x) n h e (classes.below i t) = elim i [ ]
      textless (Literal x k) n h e (classes.below i t) = elim i [ ]
      textless (DefineGroup d) n h e (classes.below i t) = elim i [ ]
      textless d n h e t = cc

      all_textless : (es : Trees) → AllEasy a es → (n : ℕ) → joined [] (each_text es (suc n)) ≡ [] → (c : Tree) → IsAmong c es → ¬ HasClass inner casei c
      all_textless none h n e c i t = elim i [ ]
      all_textless (more d ds) h n e c here t =
          textless d n (easy_each a d ds h).0 (each_none (text_of d (suc n)) (each_text ds (suc n)) e).0 t
      all_textless (more d ds) h n e c (there i) t =
          all_textless ds (easy_each a d ds h).1 n (each_none (text_of d (suc n)) (each_text ds (suc n)) e).1 c i t

all_easy : (a : Analysis) (is : List Info) → Each (IsEasy a) is → AllEasy a (trees_of is)
all_easy a [] h = refl
all_easy a (i ∷ is) h = rw (h.0.easy, all_easy a is h.1) refl

pub textless_classes : (a : Analysis) (unicode : Bool) (is : List Info) → Each (IsEasy a) is → AreFine (map info_tree is)
    → pattern_of unicode (map info_tree is) ≡ [] → HaveClasses unicode is
textless_classes a unicode is h fine e inner casei t =
    let some = fine_class inner casei (map info_tree is) t.0 fine t.1.0 t.1.1 in
    let text = ap (joined []) (each_text_of (map info_tree is) 1) ∙ e in
    absurd (all_textless inner casei a some (trees_of is) (all_easy a is h) 0 text t.0 t.1.0 t.1.1)
