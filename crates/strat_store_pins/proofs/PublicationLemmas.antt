-- Publications at a fill of one, and of one change more than a region takes.
use Rattle.std.proofs.Common.{◌≡◌, ◌<◌, ◌≤◌, ◌-◌, ◌++◌, ℕ, zero, suc, List, length, drop, take, replicate, [], ◌∷◌, Option, None, Some, Err, refl, sym, ap, ◌∙◌, arith}
use Rattle.std.specs.Option.{IfSome, option_map_or}
use Rattle.std.proofs.lemmas.List.{take_all}
use Rattle.strat_base.specs.EntryBytes.{entry_in}
use Rattle.strat_base.specs.Numbers.{number, be}
use Rattle.strat_base.specs.Tree.{Parents, climb}
use Rattle.strat_base.specs.Change.{Change, change_in}
use Rattle.def_crash.specs.Image.{window, over}
use Rattle.def_bytes.specs.Arrays.{entries_on}
use Rattle.def_bytes.specs.Block.{block_in, block_bytes, entries_in}
use Rattle.def_bytes.specs.Chain.{link_bytes}
use Rattle.def_bytes.specs.Chained.{chain_from}
use Rattle.def_bytes.specs.Manifest.{all_pass, read_number, read_items, read_extent, read_array, read_level, read_mark, read_only, read_manifest, manifest_in, manifest_bytes}
use Rattle.def_bytes.specs.Records.{records}
use Rattle.def_bytes.specs.SuperBlock.{IsLawful, slot_of, slot_in, zeros}
use Rattle.def_promote.specs.Promoted.{SaysTheSame}
use Rattle.def_recovery.specs.Head.{Head, head_changes, head_marks, head_updates, head_versions}
use Rattle.def_recovery.specs.Opening.{recover}
use Rattle.def_state.proofs.BreachLemmas.{sound_from_none}
use Rattle.def_state.specs.Sound.{IsSound}
use Rattle.def_state.specs.State.{deep, map_at}
use Rattle.def_publish.specs.Contents.{contents_state}
use Rattle.def_publish.specs.Publication.{Succeeds}
use Rattle.strat_memory.specs.Memory.{Memory, SealedLevel, CountsSealed, IsMemoryOf}
use Rattle.def_publish.specs.Worked.{chain_logged, chain_next, published_disk}
use Rattle.strat_store_pins.specs.Publications.{chain_grown, chain_behind, new_logged, new_next, twice_disk}

-- the old region's first gate, before it is shut
pub published_open : published_disk 8192 ≡ 0xa7
unfolding over be manifest_bytes zeros number
published_open = refl

pub none_lost : Succeeds chain_logged (record chain_next { levels = [] }) → ⊥
unfolding climb
none_lost n = let bad : 0 ≡ 1 = ap (λ (m : List (List ℕ × List ℕ)). length m) (n.says.maps 1 (omega arith)) in omega (arith, bad)

behind_lawful : IsLawful chain_behind.sb
behind_lawful = record {
  format_least = omega arith;
  format_most = omega arith;
  generation_least = omega arith;
  generation_fits = omega arith;
  manifest_least = omega arith;
  manifest_most = omega arith;
  length_least = omega arith;
  length_fits = omega arith;
  region_most = omega arith;
  mem_least = omega arith;
  mem_most = omega arith;
  changes_least = omega arith;
  changes_most = omega arith;
  versions_least = omega arith;
  versions_most = omega arith;
}

behind_sound : IsSound (contents_state chain_behind)
unfolding climb deep
behind_sound = sound_from_none (contents_state chain_behind) (record { tree = refl; pruned = refl; numbered = refl; accepted = refl; fits = refl }) refl

behind_says : SaysTheSame (contents_state chain_grown) (contents_state chain_behind)
unfolding climb
behind_says = record {
  mem = refl;
  changes_max = refl;
  versions_max = refl;
  versions = refl;
  marks = refl;
  maps = each;
  updates = refl;
  changes = refl;
}
  where
    each : (v : ℕ) → v < 5 → map_at (contents_state chain_behind) v ≡ map_at (contents_state chain_grown) v
    each zero lt = refl
    each (suc zero) lt = refl
    each (suc (suc zero)) lt = refl
    each (suc (suc (suc zero))) lt = refl
    each (suc (suc (suc (suc zero)))) lt = refl
    each (suc (suc (suc (suc (suc v))))) lt = absurd (omega (arith, lt))

pub grown_succeeds : Succeeds chain_grown chain_behind
grown_succeeds = record {
  lawful = behind_lawful;
  slot = refl;
  later = omega arith;
  region = refl;
  journal = refl;
  sound = behind_sound;
  says = behind_says;
}

one_lawful : IsLawful new_next.sb
one_lawful = record {
  format_least = omega arith;
  format_most = omega arith;
  generation_least = omega arith;
  generation_fits = omega arith;
  manifest_least = omega arith;
  manifest_most = omega arith;
  length_least = omega arith;
  length_fits = omega arith;
  region_most = omega arith;
  mem_least = omega arith;
  mem_most = omega arith;
  changes_least = omega arith;
  changes_most = omega arith;
  versions_least = omega arith;
  versions_most = omega arith;
}

one_sound : IsSound (contents_state new_next)
unfolding climb deep
one_sound = sound_from_none (contents_state new_next) (record { tree = refl; pruned = refl; numbered = refl; accepted = refl; fits = refl }) refl

one_says : SaysTheSame (contents_state new_logged) (contents_state new_next)
unfolding climb
one_says = record {
  mem = refl;
  changes_max = refl;
  versions_max = refl;
  versions = refl;
  marks = refl;
  maps = λ v lt. refl;
  updates = refl;
  changes = refl;
}

pub one_succeeds : Succeeds new_logged new_next
one_succeeds = record {
  lawful = one_lawful;
  slot = refl;
  later = omega arith;
  region = refl;
  journal = refl;
  sound = one_sound;
  says = one_says;
}

pub twice_damaged : recover twice_disk ≡ Err 2
unfolding number be window over slot_of slot_in zeros change_in all_pass read_number read_items read_extent read_array read_level read_mark read_only read_manifest manifest_in manifest_bytes chain_from records block_in block_bytes entry_in entries_in link_bytes entries_on climb
twice_damaged = refl

-- what stands behind some places and one more
behind_one : {X : Type 0} (x made : X) (n : ℕ) (rest : List X) → drop (suc n) (replicate n x ++ made ∷ rest) ≡ rest
behind_one x made zero rest = refl
behind_one x made (suc n) rest = behind_one x made n rest

pub left_behind : {X : Type 0} (x made : X) (n : ℕ) (old : List X) → 1 ≤ n → drop n (replicate (n - 1) x ++ made ∷ drop n old) ≡ drop n old
left_behind x made zero old low = absurd (omega (arith, low))
left_behind x made (suc n) old low =
    let k : suc n - 1 ≡ n = omega arith in
    ap (λ (m : ℕ). drop (suc n) (replicate m x ++ made ∷ drop (suc n) old)) k ∙ behind_one x made n (drop (suc n) old)

-- where a journal fits a region, what was counted at a seal is all that memory counts
pub sealed_all : (h : Head) (m : Memory) → IsMemoryOf h m → length h.journal ≤ h.sb.mem → (sealed : Option SealedLevel) → IfSome sealed (CountsSealed h)
    → (option_map_or (λ (z : SealedLevel). z.changes) sealed m.changes ≡ m.changes) × (option_map_or (λ (z : SealedLevel). z.updates) sealed m.updates ≡ m.updates)
    × (take (option_map_or (λ (z : SealedLevel). z.versions) sealed (length m.parents)) m.parents ≡ m.parents)
    × (option_map_or (λ (z : SealedLevel). z.marks) sealed m.marks ≡ m.marks)
sealed_all h m of few None counted = (refl, refl, take_all (length m.parents) m.parents (omega arith), refl)
sealed_all h m of few (Some z) counted =
    let front : take h.sb.mem h.journal ≡ h.journal = take_all h.sb.mem h.journal few in
    let many : z.versions ≡ length m.parents =
    counted.versions ∙ ap (λ (js : List Change). length (head_versions (record h { journal = js }))) front ∙ ap (λ (ps : Parents). length ps) (sym of.parents) in (
      counted.changes ∙ ap (λ (js : List Change). head_changes (record h { journal = js })) front ∙ sym of.changes,
      counted.updates ∙ ap (λ (js : List Change). head_updates (record h { journal = js })) front ∙ sym of.updates,
      take_all z.versions m.parents (omega (arith, many)),
      counted.marks ∙ ap (λ (js : List Change). head_marks (record h { journal = js })) front ∙ sym of.marks,
    )
