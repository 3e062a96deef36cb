-- The least density, from the last array to the first.
use Rattle.std.proofs.Common.{◌≡◌, ◌<◌, ◌+◌, ℕ, List, ◌∷◌, ◌++◌, length, drop, get_or, Option, Some, sym, ap, ◌∙◌}
use Rattle.std.specs.Prelude.{option_map}
use Rattle.std.specs.List.{flat_map}
use Rattle.std.proofs.lemmas.List.{drop_more}
use Rattle.strat_base.specs.declared.descriptors.ArrayDesc.{ArrayDesc}
use Rattle.strat_base.specs.declared.descriptors.LevelDesc.{LevelDesc}
use Rattle.def_texts.specs.Texts.{sparser, sparsest}
use Rattle.strat_report.specs.Densities.{density_of, least_density}
use Rattle.strat_report.specs.declared.density.Density.{Density}

-- the least density with one array in front
pub least_next : (arrays later : List ArrayDesc) (i : ℕ) (a : ArrayDesc) (least : Option Density) (lesser : Density) → i < length arrays → a ≡ get_or arrays i a
    → ((o : Option ArrayDesc) → option_map density_of o ≡ least → density_of (sparser a o) ≡ lesser)
    → least_density (drop (i + 1) arrays ++ later) ≡ least → least_density (drop i arrays ++ later) ≡ Some lesser
least_next arrays later i a least lesser more is one rest =
    ap (λ (xs : List ArrayDesc). least_density (xs ++ later)) (drop_more arrays i a more ∙ ap (λ (x : ArrayDesc). x ∷ drop (i + 1) arrays) (sym is))
    ∙ ap (λ (d : Density). Some d) (one (sparsest (drop (i + 1) arrays ++ later)) rest)

-- the arrays of one level in front of those of the levels behind it
pub arrays_behind : (levels : List LevelDesc) (i : ℕ) (level : LevelDesc) → i < length levels → level ≡ get_or levels i level
    → flat_map (λ l. l.arrays) (drop i levels) ≡ level.arrays ++ flat_map (λ l. l.arrays) (drop (i + 1) levels)
arrays_behind levels i level more is =
    ap (λ (ls : List LevelDesc). flat_map (λ l. l.arrays) ls) (drop_more levels i level more ∙ ap (λ (l : LevelDesc). l ∷ drop (i + 1) levels) (sym is))
