-- The next contents of a promotion, and where they lie.
use Rattle.std.proofs.Common.{◌≡◌, ◌≤◌, ℕ, suc, true, eqb, ltb, List, [], ◌∷◌, ◌++◌, length, drop, map, Option, Some, None, Ok, refl, sym, ap, ◌∙◌, arith}
use Rattle.std.specs.Prelude.{option_map, option_and_then}
use Rattle.std.proofs.lemmas.Bool.{and_parts, eqb-true, ltb-true}
use Rattle.strat_base.specs.Tree.{Parents}
use Rattle.strat_base.specs.declared.descriptors.LevelDesc.{LevelDesc}
use Rattle.def_crash.specs.Image.{Image}
use Rattle.def_bytes.specs.Arrays.{all_some}
use Rattle.def_bytes.specs.Chain.{IsChain}
use Rattle.def_bytes.specs.Chained.{manifest_at}
use Rattle.def_bytes.specs.Manifest.{SpellsManifest}
use Rattle.def_bytes.proofs.ChainLemmas.{chain_read}
use Rattle.def_promote.specs.Promoted.{promoted}
use Rattle.def_promote.specs.Sealed.{sealed_at, grown_by}
use Rattle.def_promote.proofs.SealedLemmas.{before_ordered}
use Rattle.std.proofs.lemmas.List.{take_all, drop_all, take-append-drop}
use Rattle.def_promote.proofs.LevelsLemmas.{tree_test}
use Rattle.def_recovery.specs.Head.{parent_numbers}
use Rattle.def_recovery.specs.Opened.{parents_in, level_on}
use Rattle.def_recovery.specs.Opening.{belongs}
use Rattle.def_recovery.proofs.OpeningLemmas.{each_some}
use Rattle.def_state.specs.Level.{Level}
use Rattle.def_state.specs.Sound.{is_tree, is_tree_from, IsSound, IsOrdered}
use Rattle.def_state.specs.State.{versions_of}
use Rattle.def_state.proofs.SoundLemmas.{sound_tree, ordered}
use Rattle.def_publish.specs.Contents.{Contents, contents_state, sealed_state, sealed_part, later_part}
use Rattle.def_publish.specs.Next.{state_after}
use Rattle.def_publish.specs.Standing.{LiesIn}
use Rattle.def_publish.specs.Publication.{IsPromotedFrom}

-- the parents of a tree but for the root's, from their numbers
numbers_back : (n : ℕ) (parents : Parents) → is_tree_from (suc n) parents ≡ true → map (λ p. Some p) (parent_numbers parents) ≡ parents
numbers_back n [] tree = refl
numbers_back n (None ∷ parents) tree = absurd (omega (arith, eqb-true (suc n) 0 (and_parts (eqb (suc n) 0) (is_tree_from (suc (suc n)) parents) tree).0))
numbers_back n (Some p ∷ parents) tree =
    ap (λ (rest : Parents). Some p ∷ rest) (numbers_back (suc n) parents (and_parts (ltb p (suc n)) (is_tree_from (suc (suc n)) parents) tree).1)

parents_back : (parents : Parents) → is_tree parents ≡ true → None ∷ map (λ p. Some p) (parent_numbers parents) ≡ parents
parents_back [] tree = absurd (cc)
parents_back (None ∷ parents) tree =
    let rest = (and_parts (ltb 0 (length (None ∷ parents))) (is_tree_from 0 (None ∷ parents)) tree).1 in
    ap (λ (x : Parents). None ∷ x) (numbers_back 0 parents (and_parts (eqb 0 0) (is_tree_from 1 parents) rest).1)
parents_back (Some p ∷ parents) tree =
    let rest = (and_parts (ltb 0 (length (Some p ∷ parents))) (is_tree_from 0 (Some p ∷ parents)) tree).1 in
    absurd (omega (arith, ltb-true p 0 (and_parts (ltb p 0) (is_tree_from 1 parents) rest).0))

pub sealed_ordered : (x : Contents) → IsOrdered (contents_state x) → IsOrdered (sealed_state x)
sealed_ordered x sound = before_ordered (contents_state x) sound (sealed_part x) (later_part x) (sym (take-append-drop x.sb.mem x.journal))

-- where a journal has no more changes than a region takes, all of it is sealed and nothing is behind it
pub none_later : (x : Contents) → length x.journal ≤ x.sb.mem → later_part x ≡ []
none_later x few = drop_all x.sb.mem x.journal few

pub sealed_whole : (x : Contents) → length x.journal ≤ x.sb.mem → sealed_state x ≡ contents_state x
sealed_whole x few = ap (sealed_at (contents_state x)) (take_all x.sb.mem x.journal few)

-- so the state after a promotion is what was promoted
pub promoted_whole : (old new : Contents) → length old.journal ≤ old.sb.mem
    → state_after old new ≡ promoted (contents_state old) new.levels new.chained.manifest.written new.chained.manifest.next_array
promoted_whole old new few = λ i. grown_by (promoted (sealed_whole old few i) new.levels new.chained.manifest.written new.chained.manifest.next_array) (none_later old few i)

pub promoted_state : (old new : Contents) → IsSound (contents_state old) → IsPromotedFrom old new
    → contents_state new ≡ state_after old new
promoted_state old new sound is =
    let versions : Parents = versions_of (sealed_state old) in
    let before : IsOrdered (sealed_state old) = sealed_ordered old (ordered (contents_state old) sound) in
    let parents : parents_in new.chained.manifest ≡ versions =
    ap (λ (numbers : List ℕ). None ∷ map (λ p. Some p) numbers) is.parents ∙ parents_back versions (tree_test versions (sound_tree (sealed_state old) before.formed)) in
    λ i. record {
      mem = is.mem i;
      changes_max = is.changes_max i;
      versions_max = is.versions_max i;
      parents = parents i;
      marks = is.marks i;
      changes = is.changes i;
      updates = is.updates i;
      written = new.chained.manifest.written;
      compacted = is.compacted i;
      next_array = new.chained.manifest.next_array;
      levels = new.levels;
      journal = is.journal i;
    }

-- what is made of two lists together
all_some_joined : {A B : Type 0} (f : A → Option B) (xs ys : List A) (zs ws : List B) → all_some f xs ≡ Some zs → all_some f ys ≡ Some ws → all_some f (xs ++ ys) ≡ Some (zs ++ ws)
all_some_joined f [] ys zs ws first second = let none : [] ≡ zs = cc in second ∙ ap (λ (l : List _). Some (l ++ ws)) none
all_some_joined f (x ∷ xs) ys zs ws first second =
    let parts = each_some f x xs zs first in
    let rest = all_some_joined f xs ys parts.1 ws parts.3 second in
    (λ i. option_and_then (λ y. option_map (λ rest. y ∷ rest) (rest i)) (parts.2 i)) ∙ ap (λ (l : List _). Some (l ++ ws)) parts.4

-- and of the second of two lists
all_some_second : {A B : Type 0} (f : A → Option B) (xs ys : List A) (zs : List B) → all_some f (xs ++ ys) ≡ Some zs → all_some f ys ≡ Some (drop (length xs) zs)
all_some_second f [] ys zs e = e
all_some_second f (x ∷ xs) ys zs e =
    let parts = each_some f x (xs ++ ys) zs e in
    all_some_second f xs ys parts.1 parts.3 ∙ ap (λ (l : List _). Some (drop (suc (length xs)) l)) parts.4

pub levels_replaced : (c : Image) (x : Contents) (taken kept fresh : List LevelDesc) (levels : List Level) → LiesIn c x → x.chained.manifest.levels ≡ taken ++ kept
    → all_some (level_on c) fresh ≡ Some levels → all_some (level_on c) (fresh ++ kept) ≡ Some (levels ++ drop (length taken) x.levels)
levels_replaced c x taken kept fresh levels lies split made =
    all_some_joined (level_on c) fresh kept levels (drop (length taken) x.levels) made
    (all_some_second (level_on c) taken kept x.levels (ap (all_some (level_on c)) (sym split) ∙ lies.arrays))

pub lies_written : (c : Image) (y : Contents) (blocks bytes : List ℕ) → SpellsManifest y.sb.format bytes y.chained.manifest → IsChain c (y.sb.manifest ∷ blocks) bytes
    → y.chained.blocks ≡ y.sb.manifest ∷ blocks → y.sb.length ≡ length bytes → belongs y.sb y.chained ≡ true → all_some (level_on c) y.chained.manifest.levels ≡ Some y.levels → LiesIn c y
lies_written c y blocks bytes spells chain blocks_are length_is belonging arrays = record {
  chain = ap (manifest_at y.sb.format c y.sb.manifest) length_is ∙ chain_read y.sb.format c y.sb.manifest blocks bytes y.chained.manifest spells chain
      ∙ (λ i. Ok (record { manifest = y.chained.manifest; blocks = sym blocks_are i }));
  belonging = belonging;
  arrays = arrays;
}
