-- A tournament: its root is ahead of all, and only the nodes above a leaf change with it.
use Rattle.std.proofs.Common.{◌≡◌, ◌≢◌, ◌≤◌, ◌<◌, ℕ, zero, suc, ◌+◌, ◌-◌, ◌*◌, ◌/◌, Bool, true, false, cond, ◌⊎◌, inl, inr, List, length, set, get_or, Option, Some, None, is_some, refl, sym, ap, ◌∙◌, subst, arith}
use Rattle.std.proofs.lemmas.Bool.{cases_lt, true≢false}
use Rattle.std.proofs.lemmas.Option.{slice_get_past}
use Rattle.std.specs.Option.{option_and_then}
use Rattle.strat_base.proofs.ResultFacts.{option_cases}
use Rattle.std.proofs.lemmas.List.{get_or-set_same, get_or-set_other}
use Rattle.strat_base.specs.Entries.{Entry}
use Rattle.strat_merge.specs.Runs.{RunView, head_at}
use Rattle.strat_merge.specs.Bracket.{is_ahead, winner_of, IsPlayed, IsBracket, IsTournament, upward, IsAbove, PlayedBeside}
use Rattle.strat_merge.proofs.OrderLemmas.{ahead_asym, ahead_itself, ahead_trans}

-- what holds of either holds of the winner
pick : (P : ℕ → Type 0) (t : Bool) (a b : ℕ) → (t ≡ true → P b) → (t ≡ false → P a) → P (cond t b a)
pick P true a b one other = one refl
pick P false a b one other = other refl

pub winner_low : (runs : List RunView) (n a b : ℕ) → a < n → b < n → winner_of runs a b < n
winner_low runs n a b low high = pick (λ w. w < n) (is_ahead (head_at runs b) b (head_at runs a) a) a b (λ _. high) (λ _. low)

pub winner_either : (runs : List RunView) (a b : ℕ) → (winner_of runs a b ≡ a) ⊎ (winner_of runs a b ≡ b)
winner_either runs a b = pick (λ w. (w ≡ a) ⊎ (w ≡ b)) (is_ahead (head_at runs b) b (head_at runs a) a) a b (λ _. inr refl) (λ _. inl refl)

-- neither is ahead of the winner
module _ (runs : List RunView) where
  abbrev Behind : ℕ → ℕ → Type 0
  Behind a w = is_ahead (head_at runs a) a (head_at runs w) w ≡ false

  winner_first : (a b : ℕ) → Behind a (winner_of runs a b)
  winner_first a b = pick (λ w. Behind a w) (is_ahead (head_at runs b) b (head_at runs a) a) a b (λ ahead. ahead_asym (head_at runs b) b (head_at runs a) a ahead) (λ _. ahead_itself (head_at runs a) a)

  winner_second : (a b : ℕ) → Behind b (winner_of runs a b)
  winner_second a b = pick (λ w. Behind b w) (is_ahead (head_at runs b) b (head_at runs a) a) a b (λ _. ahead_itself (head_at runs b) b) (λ behind. behind)

-- a write at a node
module _ (runs : List RunView) (winners : List ℕ) (k x : ℕ) where
  pub played_beside : (m : ℕ) → m ≢ k → 2 * m ≢ k → 2 * m + 1 ≢ k → IsPlayed runs winners m → IsPlayed runs (set winners k x) m
  played_beside m here left right played =
      get_or-set_other winners k m x 0 here ∙ played
      ∙ sym (λ i. winner_of runs (get_or-set_other winners k (2 * m) x 0 left i) (get_or-set_other winners k (2 * m + 1) x 0 right i))

pub played_here : (runs : List RunView) (winners : List ℕ) (k : ℕ) → 1 ≤ k → k < length winners
    → IsPlayed runs (set winners k (winner_of runs (get_or winners (2 * k) 0) (get_or winners (2 * k + 1) 0))) k
played_here runs winners k some within =
    let x = winner_of runs (get_or winners (2 * k) 0) (get_or winners (2 * k + 1) 0) in
    get_or-set_same winners k x 0 within
    ∙ sym (λ i. winner_of runs (get_or-set_other winners k (2 * k) x 0 (λ e. omega arith) i) (get_or-set_other winners k (2 * k + 1) x 0 (λ e. omega arith) i))

-- all nodes from k on are played
pub record PlayedFrom (runs : List RunView) (winners : List ℕ) (k : ℕ) : Type 0 where
  pub bracket : IsBracket (length runs) winners
  pub played : (m : ℕ) → 1 ≤ m → k ≤ m → m < length runs → IsPlayed runs winners m

pub equal_or_not : (a b : ℕ) → (a ≡ b) ⊎ (a ≢ b)
equal_or_not a b =
    elim (cases_lt a b) [
      | inl below ↦ inr (λ e. omega arith)
      | inr from ↦ elim (cases_lt b a) [ inl above ↦ inr (λ e. omega arith) | inr to ↦ inl (omega arith) ]
    ]

-- one more node is played, from the leaves up
module _ (runs : List RunView) (winners : List ℕ) (k : ℕ) (some : 1 ≤ k) (within : k < length runs) (from : PlayedFrom runs winners (k + 1)) where
  abbrev next : List ℕ
  next = set winners k (winner_of runs (get_or winners (2 * k) 0) (get_or winners (2 * k + 1) 0))

  pub played_more : IsBracket (length runs) next → PlayedFrom runs next k
  played_more bracket = record {
    bracket = bracket;
    played = λ m one at low.
        elim (equal_or_not m k) [
          | inl same ↦ let P : ℕ → Type 0 = λ j. IsPlayed runs next j in
              let nodes : length winners ≡ 2 * length runs = from.bracket.nodes in
              subst P (sym same) (played_here runs winners k some (omega arith))
          | inr other ↦ played_beside runs winners k (winner_of runs (get_or winners (2 * k) 0) (get_or winners (2 * k + 1) 0)) m other (λ e. omega arith) (λ e. omega arith) (from.played m one (omega arith) low)
        ];
  }

-- a bracket of which no node is played
pub bracket_made : (runs : ℕ) (winners : List ℕ) → length winners ≡ 2 * runs → ((k : ℕ) → k < length winners → get_or winners k 0 ≡ k - runs) → IsBracket runs winners
bracket_made runs winners nodes each = record {
  nodes = nodes;
  low = λ k within. let is : get_or winners k 0 ≡ k - runs = each k within in omega arith;
  leaves = λ i within. let is : get_or winners (runs + i) 0 ≡ (runs + i) - runs = each (runs + i) (omega arith) in omega arith;
}

-- nodes above others

upward_half : (n k : ℕ) → upward n k / 2 ≡ upward (suc n) k
unfolding upward
upward_half zero k = refl
upward_half (suc n) k = upward_half n (k / 2)

pub above_next : (k m : ℕ) → IsAbove k m → (m ≡ k) ⊎ IsAbove (k / 2) m
unfolding upward
above_next k m (zero, e) = inl (sym e)
above_next k m (suc n, e) = inr (n, e)

above_up : (k m : ℕ) → IsAbove k m → IsAbove k (m / 2)
above_up k m at = (suc at.0, sym (upward_half at.0 k) ∙ ap (λ x. x / 2) at.1)

above_half : (k m : ℕ) → IsAbove k m → IsAbove (k / 2) (m / 2)
unfolding upward
above_half k m at = (at.0, sym (upward_half at.0 k) ∙ ap (λ x. x / 2) at.1)

above_self : (k m : ℕ) → m ≡ k → IsAbove k m
unfolding upward
above_self k m e = (0, sym e)

upward_zero : (n : ℕ) → upward n 0 ≡ 0
unfolding upward
upward_zero zero = refl
upward_zero (suc n) = upward_zero n

-- one more node is played, on the way up
module _ (runs : List RunView) (winners : List ℕ) (k : ℕ) (some : 1 ≤ k) (within : k < length runs) (nodes : length winners ≡ 2 * length runs) (beside : PlayedBeside runs winners k) where
  pub replayed_more : PlayedBeside runs (set winners k (winner_of runs (get_or winners (2 * k) 0) (get_or winners (2 * k + 1) 0))) (k / 2)
  replayed_more m one low off =
      let x = winner_of runs (get_or winners (2 * k) 0) (get_or winners (2 * k + 1) 0) in
      elim (equal_or_not m k) [
        | inl same ↦ let P : ℕ → Type 0 = λ j. IsPlayed runs (set winners k (winner_of runs (get_or winners (2 * k) 0) (get_or winners (2 * k + 1) 0))) j in
            subst P (sym same) (played_here runs winners k some (omega arith))
        | inr other ↦
            played_beside runs winners k x m other (λ e. off (above_self (k / 2) m (omega arith))) (λ e. off (above_self (k / 2) m (omega arith)))
            (beside m one low (λ above. elim (above_next k m above) [ inl same ↦ other same | inr up ↦ off up ]))
      ]

pub replayed_all : (runs : List RunView) (winners : List ℕ) (k : ℕ) → k ≡ 0 → IsBracket (length runs) winners → PlayedBeside runs winners k → IsTournament runs winners
replayed_all runs winners k none bracket beside = record {
  bracket = bracket;
  played = λ m one low. beside m one low (λ above.
      let at : upward above.0 0 ≡ m = subst (λ (j : ℕ). upward above.0 j ≡ m) none above.1 in
      let zero_at : upward above.0 0 ≡ 0 = upward_zero above.0 in
      let e : m ≡ 0 = sym at ∙ zero_at in
      absurd (omega arith));
}

not_some : (o : Option Entry) → is_some o ≡ false → o ≡ None
not_some None none = refl
not_some (Some e) none = absurd (true≢false none)

-- a tournament's root, and the nodes of a run
module _ (runs : List RunView) (winners : List ℕ) (won : IsTournament runs winners) where
  -- no node below the root is ahead of it; counted by steps from it
  behind_root : (steps j : ℕ) → j ≤ steps → 1 ≤ j → j < 2 * length runs → Behind runs (get_or winners j 0) (get_or winners 1 0)
  behind_root zero j le one low = absurd (omega arith)
  behind_root (suc steps) j le one low =
      elim (cases_lt 1 j) [
        | inr root ↦
            let e : j ≡ 1 = omega arith in
            subst (λ (i : ℕ). Behind runs (get_or winners i 0) (get_or winners 1 0)) (sym e) (ahead_itself (head_at runs (get_or winners 1 0)) (get_or winners 1 0))
        | inl deeper ↦
            let up : Behind runs (get_or winners (j / 2) 0) (get_or winners 1 0) = behind_root steps (j / 2) (omega arith) (omega arith) (omega arith) in
            let played : get_or winners (j / 2) 0 ≡ winner_of runs (get_or winners (2 * (j / 2)) 0) (get_or winners (2 * (j / 2) + 1) 0) = won.played (j / 2) (omega arith) (omega arith) in
            let here : Behind runs (get_or winners j 0) (get_or winners (j / 2) 0) =
            subst (λ (w : ℕ). Behind runs (get_or winners j 0) w) (sym played)
            (elim (cases_lt (2 * (j / 2)) j) [
              | inl odd ↦
                  let e : 2 * (j / 2) + 1 ≡ j = omega arith in
                  subst (λ (i : ℕ). Behind runs (get_or winners i 0) (winner_of runs (get_or winners (2 * (j / 2)) 0) (get_or winners (2 * (j / 2) + 1) 0))) e
                  (winner_second runs (get_or winners (2 * (j / 2)) 0) (get_or winners (2 * (j / 2) + 1) 0))
              | inr even ↦
                  let e : 2 * (j / 2) ≡ j = omega arith in
                  subst (λ (i : ℕ). Behind runs (get_or winners i 0) (winner_of runs (get_or winners (2 * (j / 2)) 0) (get_or winners (2 * (j / 2) + 1) 0))) e
                  (winner_first runs (get_or winners (2 * (j / 2)) 0) (get_or winners (2 * (j / 2) + 1) 0))
            ]) in
            ahead_trans (head_at runs (get_or winners j 0)) (get_or winners j 0) (head_at runs (get_or winners (j / 2) 0)) (get_or winners (j / 2) 0) (head_at runs (get_or winners 1 0)) (get_or winners 1 0) here up
      ]

  head_none : (i : ℕ) → length runs ≤ i → head_at runs i ≡ None
  head_none i past = ap (λ (o : Option RunView). option_and_then (λ run. run.first) o) (slice_get_past runs i past)

  pub root_first : (w : ℕ) → w ≡ get_or winners 1 0 → (i : ℕ) → Behind runs i w
  root_first w is i =
      subst (λ (v : ℕ). Behind runs i v) (sym is)
      (elim (cases_lt i (length runs)) [
        | inl within ↦
            subst (λ (v : ℕ). Behind runs v (get_or winners 1 0)) (won.bracket.leaves i within)
            (behind_root (length runs + i) (length runs + i) (omega arith) (omega arith) (omega arith))
        | inr past ↦ ap (λ (o : Option Entry). is_ahead o i (head_at runs (get_or winners 1 0)) (get_or winners 1 0)) (head_none i past)
      ])

  pub root_last : (w : ℕ) → w ≡ get_or winners 1 0 → is_some (head_at runs w) ≡ false → (i : ℕ) → head_at runs i ≡ None
  root_last w is none i =
      elim (option_cases (head_at runs i)) [
        | inl nothing ↦ nothing
        | inr some ↦
            let ahead : is_ahead (head_at runs i) i (head_at runs w) w ≡ true = (λ t. is_ahead (some.1 t) i (not_some (head_at runs w) none t) w) in
            absurd (true≢false (sym ahead ∙ root_first w is i))
      ]

  -- the nodes that a run has won stand above its leaf
  won_above : (r steps j : ℕ) → 2 * length runs ≤ j + steps → 1 ≤ j → j < 2 * length runs → get_or winners j 0 ≡ r → IsAbove (length runs + r) j
  won_above r zero j le one low is = absurd (omega arith)
  won_above r (suc steps) j le one low is =
      elim (cases_lt j (length runs)) [
        | inr leaf ↦
            let e : length runs + (j - length runs) ≡ j = omega arith in
            let at : get_or winners j 0 ≡ j - length runs = ap (λ (i : ℕ). get_or winners i 0) (sym e) ∙ won.bracket.leaves (j - length runs) (omega arith) in
            above_self (length runs + r) j (omega arith)
        | inl inner ↦
            let played : get_or winners j 0 ≡ winner_of runs (get_or winners (2 * j) 0) (get_or winners (2 * j + 1) 0) = won.played j one inner in
            elim (winner_either runs (get_or winners (2 * j) 0) (get_or winners (2 * j + 1) 0)) [
              | inl left ↦
                  let up = above_up (length runs + r) (2 * j) (won_above r steps (2 * j) (omega arith) (omega arith) (omega arith) (sym left ∙ sym played ∙ is)) in
                  let e : 2 * j / 2 ≡ j = omega arith in
                  subst (λ (i : ℕ). IsAbove (length runs + r) i) e up
              | inr right ↦
                  let up = above_up (length runs + r) (2 * j + 1) (won_above r steps (2 * j + 1) (omega arith) (omega arith) (omega arith) (sym right ∙ sym played ∙ is)) in
                  let e : (2 * j + 1) / 2 ≡ j = omega arith in
                  subst (λ (i : ℕ). IsAbove (length runs + r) i) e up
            ]
      ]

  abbrev same_winner : ℕ → ℕ → Option Entry → Option Entry → ℕ
  same_winner a b x y = cond (is_ahead y b x a) b a

  -- where only one run's first entry changed, all nodes are played but those above its leaf
  pub beside_leaf : (others : List RunView) (r : ℕ) → length others ≡ length runs → ((i : ℕ) → i ≢ r → head_at others i ≡ head_at runs i) → PlayedBeside others winners ((length runs + r) / 2)
  beside_leaf others r len same m one low off =
      let not_left : get_or winners (2 * m) 0 ≢ r = λ is.
      let e : 2 * m / 2 ≡ m = omega arith in
      off (subst (λ (i : ℕ). IsAbove ((length runs + r) / 2) i) e (above_half (length runs + r) (2 * m) (won_above r (2 * length runs) (2 * m) (omega arith) (omega arith) (omega arith) is))) in
      let not_right : get_or winners (2 * m + 1) 0 ≢ r = λ is.
      let e : (2 * m + 1) / 2 ≡ m = omega arith in
      off (subst (λ (i : ℕ). IsAbove ((length runs + r) / 2) i) e (above_half (length runs + r) (2 * m + 1) (won_above r (2 * length runs) (2 * m + 1) (omega arith) (omega arith) (omega arith) is))) in
      won.played m one (omega arith)
      ∙ sym (λ i. same_winner (get_or winners (2 * m) 0) (get_or winners (2 * m + 1) 0) (same (get_or winners (2 * m) 0) not_left i) (same (get_or winners (2 * m + 1) 0) not_right i))
