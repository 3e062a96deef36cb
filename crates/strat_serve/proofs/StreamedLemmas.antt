-- Workloads as streams.
use Rattle.std.proofs.Common.{◌≡◌, ◌≢◌, ◌≤◌, ◌<◌, ◌+◌, ◌*◌, ◌^◌, ◌%◌, ℕ, zero, suc, Bool, true, false, cond, eqb, leb, ltb, ◌&&◌, List, [], ◌∷◌, ◌++◌, length, take, None, refl, sym, ap, ◌∙◌, append_assoc, append-nil, length-append, arith}
use Rattle.std.proofs.lemmas.Fmt.{length-decimal-le}
use Rattle.std.proofs.lemmas.Bool.{and_parts, ltb-true, leb-true}
use Rattle.std.proofs.lemmas.List.{take-append-le}
use Rattle.std.specs.Fmt.{decimal}
use Rattle.std.specs.List.{flat_map, AllByRecursion}
use Rattle.strat_base.specs.Change.{Change, Put, Delete, Clone}
use Rattle.strat_base.specs.Numbers.{be, number}
use Rattle.strat_base.specs.Tree.{Parents}
use Rattle.strat_base.proofs.NumberLemmas.{length-be, number-be, number-take}
use Rattle.strat_model.specs.Spelling.{command_body, counted}
use Rattle.strat_model.specs.Stream.{frame, IsBody, Splits, Whole, Rest, Long, ending_of, is_too_long}
use Rattle.strat_model.proofs.StreamLemmas.{one_splitting, same_frame}
use Rattle.def_meaning.specs.StateTable.{request_for}
use Rattle.def_texts.specs.Workload.{next_draw, drawn, leaf_from, drawn_key, drawn_update, drawn_change, changes_from, workload_changes}
use Rattle.def_state.specs.State.{tree_after}
use Rattle.def_texts.proofs.WorkloadLemmas.{lengths}
use Rattle.strat_serve.specs.Generated.{frame_bytes_from, workload_bytes, bodies_from, workload_bodies}
use Rattle.strat_serve.proofs.FramingLemmas.{length-counted}

-- the frames are those of the bodies
frames_are : (i : ℕ) (changes : List Change) → frame_bytes_from i changes ≡ flat_map frame (bodies_from i changes)
frames_are i [] = refl
frames_are i (change ∷ changes) = ap (λ (x : List ℕ). frame (command_body i (request_for change)) ++ x) (frames_are (suc i) changes)

-- there is a body for each change
bodies_many : (i : ℕ) (changes : List Change) → length (bodies_from i changes) ≡ length changes
bodies_many i [] = refl
bodies_many i (change ∷ changes) = ap suc (bodies_many (suc i) changes)

-- the body of a change has so few bytes
abbrev IsShort : ℕ → Change → Type 0
IsShort i change = length (command_body i (request_for change)) ≤ 27

module _ (i : ℕ) (fits : i < 2 ^ 32) where
  put_short : (v r : ℕ) → IsShort i (Put v (drawn_key r) (decimal i))
  put_short v r =
      let key : List ℕ = drawn_key r in
      let digits : length (decimal i) ≤ 10 = length-decimal-le 10 i (omega arith) (omega (arith, fits)) (omega (arith, fits)) in
      omega (
        arith,
        digits,
        length-append (be 4 i) (1 ∷ ((be 4 v ++ counted key) ++ counted (decimal i))),
        length-append (be 4 v ++ counted key) (counted (decimal i)),
        length-append (be 4 v) (counted key),
        length-be 4 i,
        length-be 4 v,
        length-counted key,
        length-counted (decimal i),
      )

  delete_short : (v r : ℕ) → IsShort i (Delete v (drawn_key r))
  delete_short v r =
      let key : List ℕ = drawn_key r in
      omega (arith, length-append (be 4 i) (2 ∷ (be 4 v ++ counted key)), length-append (be 4 v) (counted key), length-be 4 i, length-be 4 v, length-counted key)

  clone_short : (v : ℕ) → IsShort i (Clone v)
  clone_short v = omega (arith, length-append (be 4 i) (4 ∷ be 4 v), length-be 4 i, length-be 4 v)

  either : (b : Bool) (x y : Change) → IsShort i x → IsShort i y → IsShort i (cond b x y)
  either true x y one other = one
  either false x y one other = other

  drawn_short : (parents : Parents) (p q r : ℕ) → IsShort i (drawn_change parents i p q r)
  drawn_short parents p q r =
      let v = leaf_from parents (q % length parents) in
      either (eqb p 0 && ltb (length parents) 128) (Clone (q % length parents)) _ (clone_short (q % length parents))
      (either (eqb p 1 && ltb (length parents) 128) _ (drawn_update i p v r) (clone_short _)
      (either (leb 2 p && leb p 9) (Delete v (drawn_key r)) (Put v (drawn_key r) (decimal i)) (delete_short v r) (put_short v r)))

-- so have all bodies of a workload, and their frames
all_short : (n i state : ℕ) (parents : Parents) → i + n ≤ 2 ^ 32 → AllByRecursion IsBody (bodies_from i (changes_from n i state parents))
    × (length (frame_bytes_from i (changes_from n i state parents)) ≤ 31 * n)
unfolding changes_from
all_short zero i state parents le = (tt, omega arith)
all_short (suc n) i state parents le =
    let third : ℕ = next_draw (next_draw (next_draw state)) in
    let change : Change = drawn_change parents i (drawn (next_draw state) % 64) (drawn (next_draw (next_draw state))) (drawn third % 1000) in
    let later : List Change = changes_from n (suc i) third (tree_after parents change) in
    let body : List ℕ = command_body i (request_for change) in
    let first : length body ≤ 27 = drawn_short i (omega (arith, le)) parents (drawn (next_draw state) % 64) (drawn (next_draw (next_draw state))) (drawn third % 1000) in
    let next = all_short n (suc i) third (tree_after parents change) (omega (arith, le)) in
    ((omega (arith, first), next.0), omega (arith, first, next.1, length-append (frame body) (frame_bytes_from (suc i) later), length-append (be 4 (length body)) body, length-be 4 (length body)))

module _ (seed count : ℕ) (few : count < 2 ^ 32) where
  -- a workload is the frames of its bodies
  pub whole : Splits (workload_bytes seed count) (workload_bodies seed count) []
  whole = record {
    whole = frames_are 1 (workload_changes seed count) ∙ sym (append-nil _);
    each = (all_short count 1 seed (None ∷ []) (omega (arith, few))).0;
    last = refl;
  }

  pub few_bytes : length (workload_bytes seed count) ≤ 31 * count
  few_bytes = (all_short count 1 seed (None ∷ []) (omega (arith, few))).1

pub as_many : (seed count : ℕ) → length (workload_bodies seed count) ≡ count
as_many seed count = bodies_many 1 (workload_changes seed count) ∙ (lengths seed count).0

-- all of it splits in one way
pub all_of_it : (seed count : ℕ) (bodies : List (List ℕ)) (rest : List ℕ) → count < 2 ^ 32 → Splits (workload_bytes seed count) bodies rest → (bodies ≡ workload_bodies seed count) × (rest ≡ [])
all_of_it seed count bodies rest few splits = one_splitting (workload_bytes seed count) bodies (workload_bodies seed count) rest [] splits (whole seed count few)

-- the number in front of a frame is its body's length
front_number : (body rest : List ℕ) → IsBody body → number 4 (frame body ++ rest) ≡ length body
front_number body rest short = ap (number 4) (append_assoc (be 4 (length body)) body rest) ∙ number-be 4 (length body) (body ++ rest) (omega (arith, short))

-- bytes in front of frames that may be begin with no length that is too long
not_long : (bodies : List (List ℕ)) (rest left : List ℕ) → AllByRecursion IsBody bodies → rest ++ left ≡ flat_map frame bodies → is_too_long rest ≡ true → ⊥
not_long [] rest left each e long =
    let some = leb-true 4 (length rest) (and_parts (leb 4 (length rest)) (ltb 2048 (number 4 rest)) long).0 in
    let none : length (rest ++ left) ≡ 0 = ap length e in
    omega (arith, some, none, length-append rest left)
not_long (body ∷ bodies) rest left each e long =
    let parts = and_parts (leb 4 (length rest)) (ltb 2048 (number 4 rest)) long in
    let some : 4 ≤ length rest = leb-true 4 (length rest) parts.0 in
    let first : number 4 rest ≡ number 4 (rest ++ left) = sym (number-take 4 rest) ∙ ap (number 4) (sym (take-append-le 4 rest left some)) ∙ number-take 4 (rest ++ left) in
    let len : number 4 rest ≡ length body = first ∙ ap (number 4) e ∙ front_number body (flat_map frame bodies) each.0 in
    omega (arith, len, each.0, ltb-true 2048 (number 4 rest) parts.1)

-- bodies whose frames stand in front of others' frames are the first of those
first_bodies : (bodies others : List (List ℕ)) (rest left : List ℕ) → AllByRecursion IsBody bodies → AllByRecursion IsBody others
    → (flat_map frame bodies ++ rest) ++ left ≡ flat_map frame others → (take (length bodies) others ≡ bodies) × (is_too_long rest ≡ true → ⊥)
first_bodies [] others rest left each other_each e = (refl, not_long others rest left other_each e)
first_bodies (a ∷ bodies) [] rest left each other_each e =
    let none : length ((flat_map frame (a ∷ bodies) ++ rest) ++ left) ≡ 0 = ap length e in
    absurd (omega (arith, none, length-append (flat_map frame (a ∷ bodies) ++ rest) left, length-append (flat_map frame (a ∷ bodies)) rest, length-append (frame a) (flat_map frame bodies), length-append (be 4 (length a)) a, length-be 4 (length a)))
first_bodies (a ∷ bodies) (b ∷ others) rest left each other_each e =
    let both : frame a ++ ((flat_map frame bodies ++ rest) ++ left) ≡ frame b ++ flat_map frame others =
    sym (append_assoc (frame a) (flat_map frame bodies ++ rest) left) ∙ ap (λ (x : List ℕ). x ++ left) (sym (append_assoc (frame a) (flat_map frame bodies) rest)) ∙ e in
    let first = same_frame a b ((flat_map frame bodies ++ rest) ++ left) (flat_map frame others) each.0 other_each.0 both in
    let next = first_bodies bodies others rest left each.1 other_each.1 first.1 in
    ((λ j. sym first.0 j ∷ next.0 j), next.1)

no_long_end : (rest : List ℕ) → (is_too_long rest ≡ true → ⊥) → ending_of rest ≢ Long
no_long_end rest short = by_test (is_too_long rest) refl
  where
    by_test : (b : Bool) → is_too_long rest ≡ b → cond b Long (cond (eqb (length rest) 0) Whole Rest) ≡ Long → ⊥
    by_test true is ends = short is
    by_test false is ends = by_length (eqb (length rest) 0) ends
      where
        by_length : (b : Bool) → cond b Whole Rest ≡ Long → ⊥
        by_length true ends = let f : Whole ≡ Long = ends in cc
        by_length false ends = let f : Rest ≡ Long = ends in cc

pub front_of : (seed count : ℕ) (taken left : List ℕ) (bodies : List (List ℕ)) (rest : List ℕ) → count < 2 ^ 32 → workload_bytes seed count ≡ taken ++ left → Splits taken bodies rest
    → (take (length bodies) (workload_bodies seed count) ≡ bodies) × (ending_of rest ≢ Long)
front_of seed count taken left bodies rest few parts splits =
    let all = whole seed count few in
    let e : (flat_map frame bodies ++ rest) ++ left ≡ flat_map frame (workload_bodies seed count) =
    ap (λ (x : List ℕ). x ++ left) (sym splits.whole) ∙ sym parts ∙ all.whole ∙ append-nil _ in
    let found = first_bodies bodies (workload_bodies seed count) rest left splits.each all.each e in
    (found.0, no_long_end rest found.1)
