-- What is added to numbers of 64 bits adds up.
use Rattle.std.proofs.Common.{◌≡◌, ◌<◌, ◌+◌, ℕ, Bool, cond, eqb, min, get_or, set, take, inl, inr, List, length, sym, ap, ◌∙◌, arith}
use Rattle.std.specs.List.{sum_by, count_by}
use Rattle.std.proofs.lemmas.Bool.{cases_eq, eq-eqb, ne_eqb}
use Rattle.std.proofs.lemmas.List.{get_or-set_same, get_or-set_other}
use Rattle.std.proofs.lemmas.List.Sums.{sum_by_more}
use Rattle.strat_check.specs.declared.bare.Bare.{Bare}
use Rattle.strat_check.specs.Sums.{HaveGrown, greatest}

pub grown_none : (more : ℕ → ℕ) (ns : List ℕ) → ((v : ℕ) → v < length ns → more v ≡ 0) → HaveGrown more ns ns
grown_none more ns none v lt fits = let nothing = none v lt in omega arith

pub grown_more : (f g h : ℕ → ℕ) (a b c : List ℕ) → length b ≡ length a → ((v : ℕ) → v < length a → f v + g v ≡ h v) → HaveGrown f a b → HaveGrown g b c → HaveGrown h a c
grown_more f g h a b c len split first second v lt fits =
    let parts = split v lt in
    let mid = first v lt (omega arith) in
    let end = second v (omega arith) (omega arith) in
    omega arith

pub grown_same : (f g : ℕ → ℕ) (a b : List ℕ) → ((v : ℕ) → v < length a → f v ≡ g v) → HaveGrown f a b → HaveGrown g a b
grown_same f g a b same grown v lt fits =
    let is = same v lt in
    let at = grown v lt (omega arith) in
    omega arith

-- one number grows
pub grown_at : (ns : List ℕ) (v by n : ℕ) → v < length ns → n ≡ min (get_or ns v 0 + by) greatest → HaveGrown (λ w. cond (eqb v w) by 0) ns (set ns v n)
grown_at ns v by n lt is w under fits =
    elim (cases_eq w v) [
      | inl same ↦
          let on : cond (eqb v w) by 0 ≡ by = ap (λ (b : Bool). cond b by 0) (eq-eqb v w (sym same)) in
          let at : get_or (set ns v n) w 0 ≡ n = ap (λ (x : ℕ). get_or (set ns v n) x 0) same ∙ get_or-set_same ns v n 0 lt in
          let was : get_or ns w 0 ≡ get_or ns v 0 = ap (λ (x : ℕ). get_or ns x 0) same in
          omega arith
      | inr apart ↦
          let off : cond (eqb v w) by 0 ≡ 0 = ap (λ (b : Bool). cond b by 0) (ne_eqb v w (λ e. apart (sym e))) in
          let at : get_or (set ns v n) w 0 ≡ get_or ns w 0 = get_or-set_other ns v w n 0 apart in
          omega arith
    ]

-- a loop over versions has come one further
pub count_grown : (versions : List ℕ) (i : ℕ) → i < length versions → (a b c : List ℕ) → length b ≡ length a → HaveGrown (λ v. count_by (λ u. eqb u v) (take i versions)) a b
    → HaveGrown (λ v. cond (eqb (get_or versions i 0) v) 1 0) b c → HaveGrown (λ v. count_by (λ u. eqb u v) (take (i + 1) versions)) a c
count_grown versions i lt a b c len first second =
    grown_more (λ v. count_by (λ u. eqb u v) (take i versions)) (λ v. cond (eqb (get_or versions i 0) v) 1 0) (λ v. count_by (λ u. eqb u v) (take (i + 1) versions)) a b c len
    (λ v under. sym (sum_by_more (λ u. cond (eqb u v) 1 0) versions i 0 lt)) first second

pub bare_grown : (bare : List Bare) (i : ℕ) (d : Bare) → i < length bare → (by : ℕ) (a b c : List ℕ) → length b ≡ length a → HaveGrown (λ v. sum_by (λ x. cond (eqb x.version v) by 0) (take i bare)) a b
    → HaveGrown (λ v. cond (eqb (get_or bare i d).version v) by 0) b c → HaveGrown (λ v. sum_by (λ x. cond (eqb x.version v) by 0) (take (i + 1) bare)) a c
bare_grown bare i d lt by a b c len first second =
    grown_more (λ v. sum_by (λ (x : Bare). cond (eqb x.version v) by 0) (take i bare)) (λ v. cond (eqb (get_or bare i d).version v) by 0) (λ v. sum_by (λ (x : Bare). cond (eqb x.version v) by 0) (take (i + 1) bare)) a b c len
    (λ v under. sym (sum_by_more (λ (x : Bare). cond (eqb x.version v) by 0) bare i d lt)) first second
