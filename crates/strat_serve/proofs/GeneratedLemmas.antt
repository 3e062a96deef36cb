-- What is left of a workload.
use Rattle.std.proofs.Common.{◌≡◌, ◌≤◌, ◌<◌, ◌+◌, ◌-◌, ◌%◌, ℕ, suc, List, [], ◌++◌, length, take, drop, min, Option, Some, None, sym, ap, ◌∙◌, length-drop, arith}
use Rattle.std.proofs.lemmas.List.{drop_all, take_all, drop-drop, take-append-le, drop-append-le}
use Rattle.strat_base.specs.Change.{Change}
use Rattle.strat_base.specs.Tree.{Parents}
use Rattle.strat_io.specs.Streams.{Gives}
use Rattle.strat_model.specs.Spelling.{command_body}
use Rattle.strat_model.specs.Stream.{frame}
use Rattle.def_state.specs.State.{tree_after}
use Rattle.def_meaning.specs.StateTable.{request_for}
use Rattle.def_texts.specs.Workload.{next_draw, drawn, drawn_change, changes_from}
use Rattle.strat_serve.specs.declared.drawing.Pick.{Pick}
use Rattle.strat_serve.specs.Generated.{picked_change, frame_bytes_from, bytes_left}

some_is : (x y : List ℕ) → ◌≡◌ {A = Option (List ℕ)} (Some x) (Some y) → x ≡ y
some_is x y e = cc

-- where there is a next change, what is left begins with its frame
next_frame : (count drawn' state : ℕ) (parents : Parents) → drawn' < count
    → frame_bytes_from (suc drawn') (changes_from (count - drawn') (suc drawn') state parents)
    ≡ (let change : Change = drawn_change parents (suc drawn') (drawn (next_draw state) % 64) (drawn (next_draw (next_draw state))) (drawn (next_draw (next_draw (next_draw state))) % 1000) in
    frame (command_body (suc drawn') (request_for change))
    ++ frame_bytes_from (suc (suc drawn')) (changes_from (count - suc drawn') (suc (suc drawn')) (next_draw (next_draw (next_draw state))) (tree_after parents change)))
unfolding changes_from
next_frame count drawn' state parents lt =
    ap (λ (n : ℕ). frame_bytes_from (suc drawn') (changes_from n (suc drawn') state parents)) (let e : count - drawn' ≡ suc (count - suc drawn') = omega (arith, lt) in e)

-- a frame that was given whole is followed by that of the next change
pub refilled : (count drawn' state given now : ℕ) (parents later : Parents) (old new : List ℕ) (p : Pick)
    → length old ≤ given → drawn' < count
    → picked_change (drawn' + 1) p ≡ drawn_change parents (drawn' + 1) (drawn (next_draw state) % 64) (drawn (next_draw (next_draw state))) (drawn (next_draw (next_draw (next_draw state))) % 1000)
    → later ≡ tree_after parents (picked_change (drawn' + 1) p) → now ≡ next_draw (next_draw (next_draw state))
    → new ≡ frame (command_body (drawn' + 1) (request_for (picked_change (drawn' + 1) p)))
    → bytes_left count (drawn' + 1) now later new 0 ≡ bytes_left count drawn' state parents old given
refilled count drawn' state given now parents later old new p whole lt picked tree state_is spelled =
    let third : ℕ = next_draw (next_draw (next_draw state)) in
    let choose : ℕ → Change = λ i. drawn_change parents i (drawn (next_draw state) % 64) (drawn (next_draw (next_draw state))) (drawn third % 1000) in
    let one : drawn' + 1 ≡ suc drawn' = omega arith in
    let is : picked_change (drawn' + 1) p ≡ choose (suc drawn') = picked ∙ ap choose one in
    let rest : ℕ → ℕ → Parents → List ℕ = λ i s t. frame_bytes_from (suc i) (changes_from (count - i) (suc i) s t) in
    (λ j. spelled j ++ rest (drawn' + 1) (state_is j) (tree j))
    ∙ (λ j. frame (command_body (one j) (request_for (is j))) ++ rest (one j) third (tree_after parents (is j)))
    ∙ sym (next_frame count drawn' state parents lt)
    ∙ ap (λ (x : List ℕ). x ++ rest drawn' state parents) (sym (drop_all given old whole))

-- where all changes were drawn no frame follows
pub none_follows : (count drawn' state : ℕ) (parents : Parents) → drawn' ≡ count → frame_bytes_from (suc drawn') (changes_from (count - drawn') (suc drawn') state parents) ≡ []
unfolding changes_from
none_follows count drawn' state parents all =
    ap (λ (n : ℕ). frame_bytes_from (suc drawn') (changes_from n (suc drawn') state parents)) (let e : count - drawn' ≡ 0 = omega (arith, all) in e)

-- all that stands behind an offset
pub all_behind : (xs : List ℕ) (at : ℕ) → take (length xs - at) (drop at xs) ≡ drop at xs
all_behind xs at = take_all (length xs - at) (drop at xs) (omega (arith, length-drop at xs))

-- bytes that are copied from a frame are given, and none only where nothing is left
pub gives_front : (before old rest into : List ℕ) (given n room : ℕ) → drop given old ++ rest ≡ before → given ≤ length old → (given ≡ length old → rest ≡ [])
    → n ≡ min (length (drop given old)) room → take n into ≡ take n (drop given old) → length into ≡ room
    → Gives (Some before) (Some (drop (given + n) old ++ rest)) into n
gives_front before old rest into given n room parts within end len copied same =
    let front : List ℕ = drop given old in
    let few : n ≤ length front = grind (arith, len) in
    let behind : drop (given + n) old ++ rest ≡ drop n (front ++ rest) =
    ap (λ (x : List ℕ). x ++ rest) (sym (drop-drop n given old)) ∙ sym (drop-append-le n front rest few) in
    record {
      bytes = λ left is. copied ∙ sym (take-append-le n front rest few) ∙ ap (take n) (parts ∙ some_is before left is);
      rest = λ left is. ap Some (behind ∙ ap (drop n) (parts ∙ some_is before left is));
      at_end = λ left is none some.
          let empty : length front ≡ 0 = grind (arith, len, none, some, same) in
          let all : given ≡ length old = omega (arith, empty, length-drop given old, within) in
          sym (parts ∙ some_is before left is) ∙ (λ j. drop_all given old (omega (arith, all)) j ++ end all j);
      hidden = λ is. absurd (let f : ◌≡◌ {A = Option (List ℕ)} (Some before) None = is in cc);
    }
