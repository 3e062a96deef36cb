-- A body as a number and a change.
use Rattle.std.proofs.Common.{◌≡◌, ◌≤◌, ◌<◌, ◌+◌, ◌^◌, ℕ, true, nat_le, List, [], ◌∷◌, ◌++◌, length, take, drop, Option, Some, None, sym, ap, ◌∙◌, subst, append-nil, length-append, length-drop, arith}
use Rattle.std.specs.Prelude.{option_map}
use Rattle.std.proofs.lemmas.Bool.{le-leb}
use Rattle.std.proofs.lemmas.List.{drop_at, take-append-drop}
use Rattle.strat_base.specs.Numbers.{AreBytes, be, number, number_at}
use Rattle.strat_base.specs.Change.{BeginsWithChange, Change, change_at, change_bytes, change_in}
use Rattle.strat_base.proofs.ChangeLemmas.{change_in-bytes}
use Rattle.strat_base.proofs.NumberLemmas.{be-number_4, length-be, number-lt, number_at_some}
use Rattle.def_follow.specs.Numbered.{Numbered, SpellsNumbered}

-- a body with a numbered change has four bytes
pub short_none : (body : List ℕ) (n : Numbered) → number_at 4 body 0 ≡ None → SpellsNumbered body n → ⊥
short_none body n none spelled =
    let long : 0 + 4 ≤ length body = omega (arith, ap length spelled.text, length-append (be 4 n.number) (change_bytes n.change), length-be 4 n.number) in
    let yes : nat_le (0 + 4) (length body) ≡ true = le-leb _ _ long in
    absurd (let f : ◌≡◌ {A = Option ℕ} (Some (number 4 (drop 0 body))) None = rw yes at none in cc)

-- behind the number stands the change
behind_number : (body : List ℕ) (n : Numbered) → SpellsNumbered body n → drop 4 body ≡ change_bytes n.change
behind_number body n spelled = ap (drop 4) spelled.text ∙ drop_at (be 4 n.number) (change_bytes n.change) 4 (length-be 4 n.number)

pub begins : (body : List ℕ) (n : Numbered) → SpellsNumbered body n → BeginsWithChange (drop 4 body) n.change
begins body n spelled = record { lawful = spelled.lawful; rest = []; split = behind_number body n spelled ∙ sym (append-nil (change_bytes n.change)) }

-- which ends where the body does
pub ends_at : (body : List ℕ) (n : Numbered) (c : Change) (end : ℕ) → SpellsNumbered body n → change_at body 4 ≡ Some (c, end) → end ≡ length body
ends_at body n c end spelled is =
    let size : ℕ = 4 + length (change_bytes n.change) in
    let read : change_at body 4 ≡ Some (n.change, size) =
    ap (λ (x : List ℕ). option_map (λ (d : Change). (d, 4 + length (change_bytes d))) (change_in x)) (behind_number body n spelled ∙ sym (append-nil (change_bytes n.change)))
    ∙ ap (option_map (λ (d : Change). (d, 4 + length (change_bytes d)))) (change_in-bytes n.change [] spelled.lawful) in
    let both : ◌≡◌ {A = Option (Change × ℕ)} (Some (n.change, size)) (Some (c, end)) = sym read ∙ is in
    let same : ◌≡◌ {A = Change × ℕ} (n.change, size) (c, end) = cc in
    sym (ap (λ (p : Change × ℕ). p.1) same)
    ∙ omega (arith, ap length spelled.text, length-append (be 4 n.number) (change_bytes n.change), length-be 4 n.number)

-- nothing stands behind it
nothing_behind : (xs ys : List ℕ) → length (xs ++ ys) ≡ length xs → xs ++ ys ≡ xs
nothing_behind xs [] e = append-nil xs
nothing_behind xs (y ∷ ys) e = absurd (omega (arith, e, length-append xs (y ∷ ys)))

pub spells : (body : List ℕ) (n : ℕ) (c : Change) (end : ℕ) → AreBytes body → Some n ≡ number_at 4 body 0 → BeginsWithChange (drop 4 body) c → end ≡ 4 + length (change_bytes c) → end ≡ length body
    → SpellsNumbered body (record { number = n; change = c })
spells body n c end fits read starts end_is whole =
    let at = number_at_some 4 body 0 n read in
    let long : 4 ≤ length body = omega (arith, at.0) in
    let front : be 4 n ≡ take 4 body = ap (be 4) at.1 ∙ be-number_4 body long fits in
    let size : length (change_bytes c ++ starts.rest) ≡ length (change_bytes c) = omega (arith, ap length (sym starts.split), length-drop 4 body, end_is, whole) in
    let rest : drop 4 body ≡ change_bytes c = starts.split ∙ nothing_behind (change_bytes c) starts.rest size in
    record {
      text = sym (take-append-drop 4 body) ∙ (λ i. sym front i ++ rest i);
      fits = subst (λ (m : ℕ). m < 2 ^ 32) (sym at.1) (number-lt 4 body fits);
      lawful = starts.lawful;
    }
