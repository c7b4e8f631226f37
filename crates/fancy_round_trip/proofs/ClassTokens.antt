-- The tokens of each class of a pattern lead from its `[` to its `]`.
use Rattle.std.proofs.Common.{◌≡◌, ℕ, ◌+◌, ⊎_elim, Bool, true, false, cond, List, [], ◌∷◌, length, Some, Ok, Err, ◌==◌, refl, sym, ap, ◌∙◌, subst, ltb}
use Rattle.std.proofs.lemmas.Bool.{true≢false}
use Rattle.fancy_meaning.specs.WellFormed.{most_groups}
use Rattle.fancy_expr.specs.Each.{Each}
use Rattle.fancy_tokens.specs.declared.error.ErrorKind.TheVariants.{GeneralParseError}
use Rattle.fancy_tokens.specs.declared.lexing.ClassPlace.{ClassPlace}
use Rattle.fancy_tokens.specs.declared.flags.Flags.{Flags}
use Rattle.fancy_tokens.specs.declared.lexing.Lexing.{Lexing}
use Rattle.fancy_pattern.specs.Texts.{Text, Read, fault_at, ◌>>=◌}
use Rattle.fancy_tokens.specs.Tokens.{Token, ClassOpen, ClassText, ClassClose, Placed, Item}
use Rattle.fancy_pattern.specs.Classes.{ClassItem, class_item_at}
use Rattle.fancy_pattern.specs.Items.{Found, found_at, outside_at, within_at, item_at, class_of}
use Rattle.fancy_tokens.specs.Nesting.{opened_by}
use Rattle.fancy_pattern.specs.Lexing.{State, Lexes, ended, gap, token, unread, misplaced}
use Rattle.fancy_tokens.specs.Nesting.{GoesBy}
use Rattle.fancy_pattern.specs.Grammar.{class_close, class_text, SpellsClass, class_end, class_piece}
use Rattle.fancy_pattern.proofs.EscapedTokens.{not_if}
use Rattle.fancy_round_trip.specs.ClassTexts.{at_head, IsLast, AsWritten, ends}
use Rattle.fancy_round_trip.specs.RoundTrip.{is_rewritten}
use Rattle.fancy_round_trip.proofs.Steps.{is_if}
use Rattle.fancy_round_trip.proofs.ClassPieces.{Pieces, Settles, Leads, item_leads, written_then}

abbrev Inside : ClassPlace → Type 0
Inside p = (p.depth == 0) ≡ false

-- ---- what follows a place of a class

abbrev pub SettledBy : ClassPlace → Token → (ClassPlace → Type 0) → Type 0
SettledBy p (ClassText text) others = (q : ClassPlace) × Settles p text q × others q
SettledBy p ClassClose others = IsLast p
SettledBy p t others = Unit {0}

abbrev pub Settled : List Placed → ClassPlace → Type 0
Settled [] p = Unit {0}
Settled (x ∷ ts) p = SettledBy p x.token (Settled ts)

abbrev pub HeadSettled : Token → List Placed → Type 0
HeadSettled (ClassOpen casei) ts = Settled ts at_head
HeadSettled t ts = Unit {0}

abbrev pub AllSettled : List Placed → Type 0
AllSettled [] = Unit {0}
AllSettled (x ∷ ts) = HeadSettled x.token ts × AllSettled ts

-- ---- found tokens

abbrev Opens : Token → ClassPlace → Type 0
Opens (ClassOpen casei) q = q ≡ at_head
Opens t q = Unit {0}

class_opens : (t : Token) → Opens t (class_of t)
class_opens (ClassOpen casei) = refl
class_opens t = tt

abbrev HasOpens : Read Found → Type 0
HasOpens (Ok p) = Opens p.0.token p.0.behind.class
HasOpens (Err e) = Unit {0}

outside_opens : (now : Lexing) (text : Text) → HasOpens (outside_at now text)
unfolding outside_at
outside_opens now text = by_item (item_at now.flags now.opened text)
  where
    by_count : (i : Item × Text) (b : Bool) →
        HasOpens (cond b (Err (fault_at GeneralParseError text)) (Ok (
          record {
            token = i.0.token;
            behind = record { flags = i.0.flags; opened = now.opened + opened_by i.0.token; class = class_of i.0.token };
          },
          i.1,
        )))
    by_count i true = tt
    by_count i false = class_opens i.0.token

    by_item : (r : Read Item) → HasOpens (r
        >>= λ i. cond (ltb most_groups (now.opened + opened_by i.0.token)) (Err (fault_at GeneralParseError text)) (Ok (
          record {
            token = i.0.token;
            behind = record { flags = i.0.flags; opened = now.opened + opened_by i.0.token; class = class_of i.0.token };
          },
          i.1,
        )))
    by_item (Ok i) = by_count i (ltb most_groups (now.opened + opened_by i.0.token))
    by_item (Err e) = tt

found_opens : (now : Lexing) (text : Text) → (now.class.depth == 0) ≡ true → HasOpens (found_at now text)
unfolding found_at
found_opens now text h =
    subst HasOpens (sym (is_if (now.class.depth == 0) (outside_at now text) (within_at now text) h)) (outside_opens now text)

abbrev HasLeads : ClassPlace → Read Found → Type 0
HasLeads p (Ok f) = Leads p f.0.token f.0.behind.class
HasLeads p (Err e) = Unit {0}

abbrev ItemLeads : ClassPlace → Read ClassItem → Type 0
ItemLeads p (Ok i) = Leads p i.0.token i.0.place
ItemLeads p (Err e) = Unit {0}

within_leads : (now : Lexing) (text : Text) → Inside now.class → HasLeads now.class (within_at now text)
unfolding within_at
within_leads now text h = by_item (class_item_at now.class text) (item_leads now.class h text)
  where
    by_item : (r : Read ClassItem) → ItemLeads now.class r → HasLeads now.class (r
        >>= λ i. Ok (record { token = i.0.token; behind = record { flags = now.flags; opened = now.opened; class = i.0.place } }, i.1))
    by_item (Ok i) h = h
    by_item (Err e) h = tt

found_leads : (now : Lexing) (text : Text) → Inside now.class → HasLeads now.class (found_at now text)
unfolding found_at
found_leads now text h =
    subst (HasLeads now.class) (sym (not_if (now.class.depth == 0) (outside_at now text) (within_at now text) h)) (within_leads now text h)

-- ---- the tokens of a pattern

settled_by : (p : ClassPlace) (t : Token) (outer : List Flags) (f : Flags) (behind : Lexing) (left : ℕ) (n : Lexing) (new : List Flags) (ts : List Placed) →
    GoesBy t outer f behind left (Ok n) new → Leads p t behind.class → (Inside n.class → Settled ts n.class) → SettledBy p t (Settled ts)
settled_by p (ClassText text) outer f behind left n new ts goes leads k =
    (behind.class, leads.1, subst (λ l. Settled ts l.class) goes.0 (k (subst (λ l. Inside l.class) (sym goes.0) leads.0)))
settled_by p ClassClose outer f behind left n new ts goes leads k = leads
settled_by p t outer f behind left n new ts goes leads k = tt

head_opens : (t : Token) (outer : List Flags) (f : Flags) (behind : Lexing) (left : ℕ) (n : Lexing) (new : List Flags) (ts : List Placed) →
    GoesBy t outer f behind left (Ok n) new → Opens t behind.class → (Inside n.class → Settled ts n.class) → HeadSettled t ts
head_opens (ClassOpen casei) outer f behind left n new ts goes opens k =
    let e : n.class ≡ at_head = ap (λ l. l.class) goes.0 ∙ opens in
    subst (Settled ts) e (k (subst Inside (sym e) refl))
head_opens t outer f behind left n new ts goes opens k = tt

head_leads : (p q : ClassPlace) (t : Token) (ts : List Placed) → Leads p t q → HeadSettled t ts
head_leads p q (ClassOpen casei) ts leads = absurd leads
head_leads p q t ts leads = tt

pub tokens_settled : {s : State} {text : Text} {ts : List Placed} → Lexes s text ts → (Inside s.now.class → Settled ts s.now.class) × AllSettled ts
tokens_settled (ended o) = (λ h. tt, tt)
tokens_settled (gap o is others) = tokens_settled others
tokens_settled {s = s} {text = text} (token {found = a} {next = n} {ts = ts} at is goes others) =
    let r = tokens_settled others in
    let left = length text in (
      λ deep.
          settled_by s.now.class a.token s.outer s.now.flags a.behind left n.now n.outer ts goes
          (subst (HasLeads s.now.class) is (found_leads s.now text deep)) r.0,
      (
        by_depth s a n ts left goes r.0 (s.now.class.depth == 0) refl (λ h. subst HasOpens is (found_opens s.now text h))
            (λ h. subst (HasLeads s.now.class) is (found_leads s.now text h)),
        r.1,
      ),
    )
  where
    by_depth : (s : State) (a : Found) (n : State) (ts : List Placed) (left : ℕ) →
        GoesBy a.token s.outer s.now.flags a.behind left (Ok n.now) n.outer → (Inside n.now.class → Settled ts n.now.class) → (b : Bool) →
        (s.now.class.depth == 0) ≡ b → ((s.now.class.depth == 0) ≡ true → Opens a.token a.behind.class) →
        ((s.now.class.depth == 0) ≡ false → Leads s.now.class a.token a.behind.class) → HeadSettled a.token ts
    by_depth s a n ts left goes k true e opens leads = head_opens a.token s.outer s.now.flags a.behind left n.now n.outer ts goes (opens e) k
    by_depth s a n ts left goes k false e opens leads = head_leads s.now.class a.behind.class a.token ts (leads e)
tokens_settled (unread at is) = (λ h. tt, (tt, tt))
tokens_settled (misplaced left at is goes) = (λ h. tt, (tt, tt))

-- ---- a class that is spelled

abbrev pub NotRewritten : List Placed → Type 0
NotRewritten ts = Each (λ p. is_rewritten p.token ≡ false) ts

closes : (p : ClassPlace) (t : Token) (others : ClassPlace → Type 0) → class_close t ≡ Some tt → SettledBy p t others → IsLast p
closes p ClassClose others is h = h
closes p t others is h = absurd (cc)

leads_on : (p : ClassPlace) (t : Token) (piece : Text) (others : ClassPlace → Type 0) → class_text t ≡ Some piece → is_rewritten t ≡ false →
    SettledBy p t others → (q : ClassPlace) × Pieces p piece q × others q
leads_on p (ClassText text) piece others is missing h =
    let same : text ≡ piece = cc in (
      h.0,
      subst (λ l. Pieces p l h.0) same (⊎_elim (λ s. s) (λ s. absurd (true≢false (sym s ∙ missing))) h.1),
      h.2,
    )
leads_on p t piece others is missing h = absurd (cc)

pub class_written : {x y : List Placed} {text : List ℕ} → SpellsClass x y text → (p : ClassPlace) → Settled x p → NotRewritten x → AsWritten p text
class_written (class_end t) p h missing = ends (closes p t.first.token _ t.is (subst (λ l. Settled l p) t.tokens h))
class_written (class_piece {piece = piece} t others) p h missing =
    let none = subst NotRewritten t.tokens missing in
    let r = leads_on p t.first.token piece _ t.is none.0 (subst (λ l. Settled l p) t.tokens h) in
    written_then r.1 (class_written others r.0 r.2 none.1)
