-- Version 0 and its child in a part each.
use Rattle.std.proofs.Common.{◌≡◌, ◌<◌, ◌≤◌, ◌*◌, ◌+◌, ◌⊎◌, inl, inr, ℕ, zero, suc, [], ◌∷◌, Some, None, refl, sym, arith}
use Rattle.std.specs.List.{sum_by}
use Rattle.std.specs.Option.{option_map_or}
use Rattle.std.proofs.lemmas.Option.{none-some}
use Rattle.strat_base.specs.Tree.{parent_of}
use Rattle.def_split.specs.Plan.{Plan, part_of, part_at, members, in_no_part, IsSplit}
use Rattle.def_split.specs.Splits.{pair}

below_two : (P : ℕ → Type 0) → P 0 → P 1 → (v : ℕ) → v < 2 → P v
below_two P first second zero lt = first
below_two P first second (suc zero) lt = second
below_two P first second (suc (suc v)) lt = absurd (omega arith)

module _ (own seen : ℕ → ℕ) (some : 1 ≤ own 0) (dense : own 0 ≤ 3 * seen 0) (dense_child : own 1 + seen 0 ≤ 3 * seen 1) (led : own 1 + seen 0 ≤ 2 * own 1) (some_child : 1 ≤ own 1) where
  abbrev plan : Plan
  plan = record {
    labels = 0 ∷ 1 ∷ [];
    parts =
        record { above = None; leads = own 0; entries = own 0; least = seen 0 }
        ∷ record { above = Some 0; leads = own 1; entries = own 1 + seen 0; least = seen 1 }
        ∷ [];
  }

  pub two_parts : IsSplit pair own seen plan
  two_parts = record {
    labelled = below_two (λ v. (part_of plan v < 2) ⊎ (part_of plan v ≡ in_no_part)) (inl (omega arith)) (inl (omega arith));
    root = below_two (λ v. part_of plan v < 2 → parent_of pair v ≡ None → (part_at plan (part_of plan v)).above ≡ None)
        (λ inside none. refl) (λ inside none. absurd (none-some 0 (sym none)));
    hangs = λ v p lt. below_two (λ u. part_of plan u < 2 → parent_of pair u ≡ Some p → (part_of plan p ≡ part_of plan u) ⊎ ((part_at plan (part_of plan u)).above ≡ Some p))
        (λ inside parent. absurd (none-some p parent)) (λ inside parent. inr parent) v lt;
    topmost = below_two (λ q. (part_at plan q).above ≡ None → part_of plan 0 ≡ q) (λ none. refl) (λ none. absurd (none-some 0 (sym none)));
    placed = λ q p lt. below_two (λ r. (part_at plan r).above ≡ Some p → p < 2) (λ above. absurd (none-some p above)) (λ above. let same : 0 ≡ p = cc in omega (arith, same)) q lt;
    served = below_two (λ v. 0 < seen v → part_of plan v < 2) (λ sees. omega arith) (λ sees. omega arith);
    leads = below_two (λ q. (part_at plan q).leads ≡ sum_by own (members plan q)) (omega arith) (omega arith);
    entries = below_two (λ q. (part_at plan q).entries ≡ (part_at plan q).leads + option_map_or seen (part_at plan q).above 0) (omega arith) refl;
    dense = below_two (λ v. part_of plan v < 2 → (part_at plan (part_of plan v)).entries ≤ 3 * seen v) (λ inside. dense) (λ inside. dense_child);
    attained = below_two (λ q. (v : ℕ) × (v < 2) × (part_of plan v ≡ q) × (seen v ≡ (part_at plan q).least)) (0, omega arith, refl, refl) (1, omega arith, refl, refl);
    low = below_two (λ v. part_of plan v < 2 → (part_at plan (part_of plan v)).least ≤ seen v) (λ inside. omega arith) (λ inside. omega arith);
    some = below_two (λ q. 1 ≤ (part_at plan q).entries) some (omega (arith, some_child));
    led = below_two (λ q. (part_at plan q).entries ≤ 2 * (part_at plan q).leads) (omega arith) led;
    numbered = λ q r v less inside lt. below_two (λ u. part_of plan u ≡ r → (w : ℕ) × (w < u) × (part_of plan w ≡ q))
        (λ is. absurd (omega (arith, is, less))) (λ is. (0, omega arith, omega (arith, is, less))) v lt;
  }
