-- The program of a tree.
use Rattle.std.specs.Prelude.{ℕ, zero, suc, ◌+◌, ◌-◌, ◌*◌, max, Bool, true, false, ◌&&◌, ◌||◌, not, List, [], ◌∷◌, length, map, take, drop, reverse, take_while, Option, Some, None, if◌then◌else◌, ◌==◌, nat_lt, encode_utf8_all}
use Rattle.std.specs.List.{list_any}
use Rattle.fancy_meaning.specs.Tree.{Tree, Trees, none, more, KeepOut, ContinueFromPreviousMatchEnd, Any, Assert, GeneralNewline, Literal, LiteralBytes, Delegate, Concat, Alt, Group, LookAround, Repeat, Backref, BackrefExists, AtomicGroup, AbsentRepeater, Control, Conditional, SubroutineCall, Fail}
use Rattle.fancy_meaning.specs.Nodes.{nodes, group_count, target, is_read, is_absent, is_keep_out}
use Rattle.fancy_meaning.specs.OpenCalls.{Depths, opened, no_calls, call_depth, free_calls}
use Rattle.fancy_meaning.specs.Assertions.{assertion_within}
use Rattle.fancy_meaning.specs.Options.{Plan}
use Rattle.fancy_meaning.specs.Sizes.{Size, size}
use Rattle.fancy_meaning.specs.Marks.{takes_nothing, is_marked_group}
use Rattle.fancy_meaning.specs.Hard.{is_hard}
use Rattle.fancy_meaning.specs.Instr.{Instr, Prog}
use Rattle.fancy_meaning.specs.Code.{Code, nothing, one, ◌>>◌, in_turn, branches}
use Rattle.fancy_meaning.specs.Batches.{batch, class_code, fragment, pattern_of, group_range, any_instr}
use Rattle.fancy_meaning.specs.Constructs.{group_code, atomic_code, conditional_code, newline_code, look_around_code, LoopForm, AtMostOnce, loop_form, repeat_code, absent_code}

abbrev pub is_at_most_once : LoopForm → Bool
is_at_most_once AtMostOnce = true
is_at_most_once form = false

-- a part with its code, which goes by whether its context is hard
pub record Part : Type 0 where
  pub tree : Tree
  pub code : Bool → Code

abbrev pub alt_code : List Part → Bool → Code
alt_code ws in_hard = branches (map (λ w. w.code in_hard) ws)

-- a call that is not opened, where there is such a target
abbrev pub fail_code : Option Tree → Code
fail_code None = nothing
fail_code (Some e) = one Instr.Fail

module _ (p : Plan) where
  abbrev pub whole : Tree
  whole = p.analysis.tree

  abbrev pub size_of : Tree → Size
  size_of e = size whole e

  -- the body of a look-around, which has an easy context
  abbrev pub body_code : Part → Size × Code
  body_code w = (size_of w.tree, w.code false)

  -- a repeater whose body is hard and has an absent node is refused
  abbrev pub is_refused_body : Tree → Bool
  is_refused_body e = is_hard p.analysis e && list_any is_absent (nodes e)

  -- ---- what stands around the code of the tree

  -- the search for a start
  abbrev pub search_code : Code
  search_code = if p.anchored then nothing else (one (Instr.SplitUnanchored 3 1) >> one Instr.Any >> one (Instr.Jmp 0))

  -- without a group 0 of the tree's own, its two ends are kept
  abbrev pub edge_code : ℕ → Code
  edge_code slot = if p.analysis.explicit_capture_group_0 then nothing else one (Instr.Save slot)

  abbrev pub end_text_code : Code
  end_text_code = if p.end_text then one Instr.RejectEmptyMatchAtEOFFollowingNewline else nothing

  -- how many numbers the groups use, 0 among them
  abbrev pub group_numbers : ℕ
  group_numbers = if p.analysis.explicit_capture_group_0 then group_count whole else group_count whole + 1

  -- the first slot that is no group's, nor the text-end flag
  abbrev pub first_fresh : ℕ
  first_fresh = 2 * group_numbers + (if p.end_text then 1 else 0)

  -- ---- the layout, where `easy` tells which nodes may be left to a plain search
  module _ (easy : Tree → Bool) where
    -- an easy node in an easy context is a batch of itself; any other is written out
    abbrev pub in_context : Tree → (Bool → Code) → Bool → Code
    in_context e written in_hard = if easy e && not in_hard then batch p.unicode (e ∷ []) else written in_hard

    -- a node, and how it is written out
    abbrev pub part_of : Tree → (Bool → Code) → Part
    part_of e written = record { tree = e; code = in_context e written }

    abbrev pub is_prefix : Part → Bool
    is_prefix w = easy w.tree && (size_of w.tree).is_const

    abbrev pub is_suffix : Bool → Part → Bool
    is_suffix in_hard w = easy w.tree && (not in_hard || (size_of w.tree).is_const)

    -- The longest run of first children that are easy and constant, the longest run of last ones of the rest that are
    -- easy (and constant, in a hard context), and each child between in a hard context.
    abbrev pub concat_code : List Part → Bool → Code
    concat_code ws in_hard =
        let front = take_while is_prefix ws in
        let rest = drop (length front) ws in
        let back = reverse (take_while (is_suffix in_hard) (reverse rest)) in
        let middle = take (length rest - length back) rest in
        batch p.unicode (map (λ w. w.tree) front)
        >> in_turn (map (λ w. w.code true) middle)
        >> batch p.unicode (map (λ w. w.tree) back)

    -- the body of a group, in a hard context where the group is read
    abbrev pub group_body : ℕ → Tree → (Bool → Code) → Bool → Code
    group_body g e written in_hard = group_code g (in_context e written (in_hard || is_read whole g))

    -- bodies of loops stand in a hard context, but for a loop of at most one iteration
    abbrev pub loop_body : Tree → (Bool → Code) → LoopForm → Bool → Code
    loop_body e written form in_hard = in_context e written (in_hard || not (is_at_most_once form))

    -- without an easy body it is written out
    abbrev pub absent_repeater_code : Tree → (Bool → Code) → Code
    absent_repeater_code e written =
        let name = pattern_of p.unicode (e ∷ []) in
        if easy e then one (Instr.AbsentRepeater name (fragment p.unicode (e ∷ [])) (group_range (e ∷ [])))
        else (if is_refused_body e then nothing else absent_code (in_context e written false))

    -- Each node as it is written out: whether it is marked, and whether its context is hard. Only a group and a
    -- sequence pass the mark on (`MarkLaw`). `call g in_hard` is the code of a call of g.
    module _ (call : ℕ → Bool → Code) where
      abbrev mutual
        pub written : Tree → (is_marked in_hard : Bool) → Code
        written (Literal c casei) is_marked in_hard = batch p.unicode (Literal c casei ∷ [])
        written (LiteralBytes cs) is_marked in_hard = one (Instr.Lit (encode_utf8_all cs))
        written (Any newline crlf) is_marked in_hard = one (any_instr newline crlf)
        written (Delegate inner casei) is_marked in_hard = class_code p.unicode inner casei
        written (Assert within a) is_marked in_hard = one (Instr.Assert (assertion_within within a))
        written (GeneralNewline unicode) is_marked in_hard = newline_code unicode
        written (Concat es) is_marked in_hard = concat_code (each_part is_marked es) in_hard
        written (Alt es) is_marked in_hard = alt_code (each_part false es) in_hard
        written (Group g e) is_marked in_hard = group_body g e (written e is_marked) in_hard
        written (SubroutineCall g) is_marked in_hard = call g in_hard
        written (Repeat lo hi greedy e) is_marked in_hard =
            let form = loop_form lo hi ((size_of e).least == 0) in
            repeat_code greedy (loop_body e (written e false) form in_hard) form
        written (LookAround look (Alt es)) is_marked in_hard =
            let ws = each_part false es in
            look_around_code look (body_code (part_of (Alt es) (alt_code ws))) (map body_code ws)
        written (LookAround look e) is_marked in_hard =
            look_around_code look (body_code (part_of e (written e false))) []
        written (Backref g casei) is_marked in_hard = one (Instr.Backref (2 * g) casei p.unicode)
        written (BackrefExists g None) is_marked in_hard = one (Instr.BackrefExistsCondition g)
        written (Control Fail) is_marked in_hard = one Instr.Fail
        written (AtomicGroup e) is_marked in_hard = atomic_code (in_context e (written e false) false)
        written KeepOut is_marked in_hard = one (Instr.Save 0)
        written ContinueFromPreviousMatchEnd is_marked in_hard = one (Instr.ContinueFromPreviousMatchEnd is_marked)
        written (Conditional c t f) is_marked in_hard =
            conditional_code
            (in_context c (written c false) in_hard)
            (in_context t (written t false) in_hard)
            (in_context f (written f false) in_hard)
        written (AbsentRepeater e) is_marked in_hard = absent_repeater_code e (written e false)
        -- `Empty`, `DefineGroup`, and what is refused
        written e is_marked in_hard = nothing

        pub each_part : (is_marked : Bool) → Trees → List Part
        each_part is_marked none = []
        each_part is_marked (more e es) =
            part_of e (written e is_marked) ∷ each_part (is_marked && takes_nothing whole e) es

    -- the whole tree, which may be hard for its own reason
    abbrev pub is_root_easy : Bool
    is_root_easy = easy whole && not (p.analysis.end_text && (size_of whole).least == 0)

    abbrev pub root_code : (ℕ → Bool → Code) → Bool → Code
    root_code call in_hard =
        if is_root_easy && not in_hard then batch p.unicode (whole ∷ []) else written call whole true in_hard

    abbrev pub target_code : ℕ → (ℕ → Bool → Code) → Bool → Option Tree → Code
    target_code g call in_hard None = nothing
    target_code zero call in_hard (Some e) = root_code call in_hard
    target_code (suc g) call in_hard (Some e) =
        group_body (suc g) e (written call e (is_marked_group whole (suc g))) in_hard

    -- the code of a call where these calls are open, and at most n more may be opened
    abbrev pub called_code : ℕ → Depths → ℕ → Bool → Code
    called_code zero depths g in_hard = fail_code (target whole g)
    called_code (suc n) depths g in_hard =
        if nat_lt (depths g) call_depth
        then target_code g (called_code n (opened g depths)) in_hard (target whole g)
        else fail_code (target whole g)

    -- ---- the whole program

    abbrev pub program_code : Code
    program_code =
        search_code >> edge_code 0 >> root_code (called_code (free_calls whole no_calls) no_calls) false
        >> edge_code 1 >> end_text_code >> one Instr.End

    abbrev pub program : Prog
    program =
        let laid = program_code 0 first_fresh in
        record {
          body = laid.instrs;
          max_size = (size_of whole).most;
          total_groups = group_count whole;
          slots = max 2 laid.fresh;
          explicit_group_0 = p.analysis.explicit_capture_group_0;
          find_not_empty = p.analysis.find_not_empty;
          leftmost_longest = p.analysis.leftmost_longest;
          keeps_start = list_any is_keep_out (nodes whole);
          end_text = p.end_text;
          unicode = p.unicode;
        }

-- the program of a tree
unfoldable pub layout : Plan → Prog
layout p = program p (λ e. not (is_hard p.analysis e))

-- the same with every node taken for hard
unfoldable pub undelegated_layout : Plan → Prog
undelegated_layout p = program p (λ e. false)
