-- What a change of one entry does to a pool.
use Rattle.std.proofs.Common.{◌≡◌, ◌<◌, ℕ, ◌+◌, Bool, cond, if◌then◌else◌, ◌==◌, List, length, get_or, set, inl, inr, ap, arith, lt-ltb, eq-eqb, ne_eqb}
use Rattle.std.proofs.lemmas.Bool.{cases_lt, cases_eq}
use Rattle.std.proofs.lemmas.List.{get_or-set_same, get_or-set_other, get_or_past}
use Rattle.std.proofs.lemmas.List.Sums.{sum_by-set}
use Rattle.strat_arena.specs.declared.pool.PoolEntry.{PoolEntry}
use Rattle.strat_arena.specs.ArenaView.{no_arena}
use Rattle.strat_arena.specs.PoolView.{shares_at, is_shared, count_shared, SameBeside}

abbrev vacant : PoolEntry
vacant = record { arena = no_arena; shares = 0 }

abbrev counted : PoolEntry → ℕ
counted e = cond (is_shared e) 1 0

-- 1 where a number is still in the pool
abbrev unless : Bool → ℕ
unless gone = if gone then 0 else 1

abbrev pub stays : ℕ → ℕ
stays shares = unless (shares == 0)

one : (e : PoolEntry) → 0 < e.shares → counted e ≡ 1
one e shared = ap (λ b. cond b 1 0) (lt-ltb 0 e.shares shared)

none : (e : PoolEntry) → e.shares ≡ 0 → counted e ≡ 0
none e gone = ap (λ n. counted (record { arena = e.arena; shares = n })) gone

-- a number with shares is that of an entry
pub within_pool : (pool : List PoolEntry) (n : ℕ) → 0 < shares_at pool n → n < length pool
within_pool pool n shared =
    elim (cases_lt n (length pool)) [
      | inl known ↦ known
      | inr past ↦ absurd (omega (arith, ap (λ (e : PoolEntry). e.shares) (get_or_past pool n vacant past)))
    ]

module _ (pool : List PoolEntry) (n : ℕ) (e : PoolEntry) where
  pub same_set : SameBeside pool (set pool n e) n
  same_set m apart = get_or-set_other pool n m e vacant apart

  pub count_same : 0 < shares_at pool n → 0 < e.shares → count_shared (set pool n e) ≡ count_shared pool
  count_same old new = omega (arith, sum_by-set counted pool n e vacant (within_pool pool n old), one e new, one (get_or pool n vacant) old)

  pub count_less : 0 < shares_at pool n → e.shares ≡ 0 → count_shared (set pool n e) + 1 ≡ count_shared pool
  count_less old new = omega (arith, sum_by-set counted pool n e vacant (within_pool pool n old), none e new, one (get_or pool n vacant) old)

  pub count_more : n < length pool → shares_at pool n ≡ 0 → 0 < e.shares → count_shared (set pool n e) ≡ count_shared pool + 1
  count_more known old new = omega (arith, sum_by-set counted pool n e vacant known, one e new, none (get_or pool n vacant) old)

  -- a share less, and whether the number is still in the pool
  pub count_released : 0 < shares_at pool n
      → count_shared (set pool n e) + 1 ≡ count_shared pool + stays (shares_at (set pool n e) n)
  count_released old =
      let at : shares_at (set pool n e) n ≡ e.shares = ap (λ (x : PoolEntry). x.shares) (get_or-set_same pool n e vacant (within_pool pool n old)) in
      let left : stays (shares_at (set pool n e) n) ≡ stays e.shares = ap stays at in
      elim (cases_eq e.shares 0) [
        | inl gone ↦ omega (arith, count_less old gone, left, ap unless (eq-eqb e.shares 0 gone))
        | inr some ↦ omega (arith, count_same old (omega arith), left, ap unless (ne_eqb e.shares 0 some))
      ]
