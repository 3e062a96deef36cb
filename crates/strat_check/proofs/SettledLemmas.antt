-- What is noted of arrays while a group is looked at, item by item.
use Rattle.std.proofs.Common.{◌≡◌, ◌<◌, ℕ, zero, suc, Bool, true, false, ◌&&◌, ◌||◌, not, eqb, cond, inl, inr, List, [], ◌∷◌, ◌++◌, length, map, filter, replicate, refl, sym, ap, ◌∙◌, arith}
use Rattle.std.specs.List.{list_any, list_all}
use Rattle.std.proofs.lemmas.Bool.{and_parts, and_from, cases_Bool, cases_eq, ne_eqb, not-true, not_from_false}
use Rattle.std.proofs.lemmas.List.Folds.{list_any-append}
use Rattle.strat_base.specs.Entries.{Entry, holds_entry}
use Rattle.strat_base.specs.Tree.{Parents}
use Rattle.strat_base.proofs.ListFacts.{all_at, all_from, any_among, any_from, filter_among}
use Rattle.def_state.specs.Live.{is_live, live}
use Rattle.def_check.specs.Marked.{unmarked, is_from_run}
use Rattle.strat_check.specs.Strays.{unmarked_where, has_stray, has_live_stray, strays_at}
use Rattle.strat_check.specs.StrayGroups.{is_stray, noted, with_answer, AreAllAsked}
use Rattle.strat_check.specs.declared.strays.Strays.{Strays}

pub all_repeated : {X : Type 0} (p : X → Bool) (n : ℕ) (x : X) → p x ≡ true → list_all p (replicate n x) ≡ true
all_repeated p zero x is = refl
all_repeated p (suc n) x is = and_from (p x) (list_all p (replicate n x)) is (all_repeated p n x is)

any_last : (p : Entry → Bool) (es : List Entry) (e : Entry) → list_any p (es ++ e ∷ []) ≡ (list_any p es || p e)
any_last p es e = list_any-append p es (e ∷ []) ∙ ap (λ (b : Bool). list_any p es || b) (or_false (p e))
  where
    or_false : (b : Bool) → (b || false) ≡ b
    or_false true = refl
    or_false false = refl

pub not_noted : (s : Strays) → s ≡ noted false s
not_noted s = λ j. record { has_any = sym (or_false s.has_any) j; is_live = s.is_live; is_due = sym (or_false s.is_due) j }
  where
    or_false : (b : Bool) → (b || false) ≡ b
    or_false true = refl
    or_false false = refl

pub not_settled : (lives : Bool) (s : Strays) → s ≡ with_answer false lives s
not_settled lives s = λ j. record { has_any = s.has_any; is_live = sym (or_false s.is_live) j; is_due = sym (and_true s.is_due) j }
  where
    or_false : (b : Bool) → (b || false) ≡ b
    or_false true = refl
    or_false false = refl

    and_true : (b : Bool) → (b && true) ≡ b
    and_true true = refl
    and_true false = refl

-- a group in which an array has a stray: one of its entries is it
pub stray_is_any : (p : Entry → Bool) (i : ℕ) (group : List Entry) → list_any (is_stray (unmarked_where p group) i) group ≡ has_stray p i group
stray_is_any p i group = go group
  where
    go : (es : List Entry) → list_any (is_stray (unmarked_where p group) i) es ≡ not (list_all (holds_entry (unmarked_where p group)) (unmarked_where (is_from_run i) es))
    go [] = refl
    go (e ∷ es) = step (is_from_run i e) (go es)
      where
        step : (b : Bool) → list_any (is_stray (unmarked_where p group) i) es ≡ not (list_all (holds_entry (unmarked_where p group)) (unmarked_where (is_from_run i) es))
            → ((b && not (holds_entry (unmarked_where p group) (unmarked e))) || list_any (is_stray (unmarked_where p group) i) es)
            ≡ not (list_all (holds_entry (unmarked_where p group)) (map unmarked (cond b (e ∷ filter (is_from_run i) es) (filter (is_from_run i) es))))
        step true rest = ap (λ (b : Bool). not (holds_entry (unmarked_where p group) (unmarked e)) || b) rest ∙ both (holds_entry (unmarked_where p group) (unmarked e)) (list_all (holds_entry (unmarked_where p group)) (unmarked_where (is_from_run i) es))
          where
            both : (a b : Bool) → (not a || not b) ≡ not (a && b)
            both true b = refl
            both false b = refl
        step false rest = rest

-- where one that is live is a stray, there is a stray; and where there is one, the array has an entry
live_is_stray : (parents : Parents) (p : Entry → Bool) (tag : List ℕ) (i : ℕ) (group : List Entry) → has_stray p i group ≡ false → has_live_stray parents p tag i group ≡ false
live_is_stray parents p tag i group none =
    ap not (all_from (λ v. list_all (holds_entry (unmarked_where p group)) (live parents (unmarked_where (is_from_run i) group) v)) tag (λ v there.
    all_from (holds_entry (unmarked_where p group)) (live parents (unmarked_where (is_from_run i) group) v) (λ e lives.
    all_at (holds_entry (unmarked_where p group)) e (unmarked_where (is_from_run i) group) (not_false (list_all (holds_entry (unmarked_where p group)) (unmarked_where (is_from_run i) group)) none)
    (filter_among (is_live parents (unmarked_where (is_from_run i) group) v) (unmarked_where (is_from_run i) group) e lives).0)))
  where
    not_false : (b : Bool) → not b ≡ false → b ≡ true
    not_false true is = refl
    not_false false is = sym is

stray_has_entry : (p : Entry → Bool) (i : ℕ) (group : List Entry) → has_stray p i group ≡ true → list_any (is_from_run i) group ≡ true
stray_has_entry p i group some =
    let found = any_among (is_stray (unmarked_where p group) i) group (stray_is_any p i group ∙ some) in
    any_from (is_from_run i) found.0 group found.1 (and_parts (is_from_run i found.0) (not (holds_entry (unmarked_where p group) (unmarked found.0))) found.2).0

-- a group was looked at for strays, and then it was asked where it was due
module _ (parents : Parents) (p : Entry → Bool) (tag : List ℕ) (i : ℕ) (group : List Entry) (old mid new : Strays) (clear : old.is_due ≡ false)
    (first : mid ≡ noted (list_any (is_stray (unmarked_where p group) i) group) old)
    (then : new ≡ with_answer (list_any (is_from_run i) group) (has_live_stray parents p tag i group) mid) where
  pub any_noted : new.has_any ≡ (old.has_any || has_stray p i group)
  any_noted = ap (λ (s : Strays). s.has_any) then ∙ ap (λ (s : Strays). s.has_any) first ∙ ap (λ (b : Bool). old.has_any || b) (stray_is_any p i group)

  due_is : mid.is_due ≡ has_stray p i group
  due_is = ap (λ (s : Strays). s.is_due) first ∙ ap (λ (b : Bool). b || list_any (is_stray (unmarked_where p group) i) group) clear ∙ stray_is_any p i group

  pub live_noted : new.is_live ≡ (old.is_live || has_live_stray parents p tag i group)
  live_noted =
      ap (λ (s : Strays). s.is_live) then
      ∙ ap (λ (b : Bool). b || ((list_any (is_from_run i) group && mid.is_due) && has_live_stray parents p tag i group)) (ap (λ (s : Strays). s.is_live) first)
      ∙ ap (λ (b : Bool). old.is_live || b) (elim (cases_Bool (has_stray p i group)) [
        | inl some ↦
            (λ j. (stray_has_entry p i group some j && (due_is ∙ some) j) && has_live_stray parents p tag i group)
        | inr none ↦
            let dead = live_is_stray parents p tag i group none in
            ap (λ (b : Bool). (list_any (is_from_run i) group && mid.is_due) && b) dead ∙ and_off (list_any (is_from_run i) group && mid.is_due) ∙ sym dead
      ])
    where
      and_off : (b : Bool) → (b && false) ≡ false
      and_off true = refl
      and_off false = refl

  pub none_left : new.is_due ≡ false
  none_left =
      ap (λ (s : Strays). s.is_due) then ∙ ap (λ (b : Bool). b && not (list_any (is_from_run i) group)) due_is
      ∙ elim (cases_Bool (has_stray p i group)) [
        | inl some ↦ ap (λ (b : Bool). has_stray p i group && not b) (stray_has_entry p i group some) ∙ and_off (has_stray p i group)
        | inr none ↦ ap (λ (b : Bool). b && not (list_any (is_from_run i) group)) none
      ]
    where
      and_off : (b : Bool) → (b && false) ≡ false
      and_off true = refl
      and_off false = refl

-- nothing is due of any array, told by places
pub settled_at : (found : List Strays) → AreAllAsked found → (i : ℕ) → (strays_at found i).is_due ≡ false
settled_at [] all i = refl
settled_at (s ∷ found) all zero = not-true s.is_due (and_parts (not s.is_due) (list_all (λ (x : Strays). not x.is_due) found) all).0
settled_at (s ∷ found) all (suc i) = settled_at found (and_parts (not s.is_due) (list_all (λ (x : Strays). not x.is_due) found) all).1 i

pub settled_from : (found : List Strays) → ((i : ℕ) → i < length found → (strays_at found i).is_due ≡ false) → AreAllAsked found
settled_from [] each = refl
settled_from (s ∷ found) each =
    and_from (not s.is_due) (list_all (λ (x : Strays). not x.is_due) found) (not_from_false s.is_due (each 0 (omega arith))) (settled_from found (λ i low. each (suc i) (omega (arith, low))))

-- an entry that is no lead is a stray of its array
pub stray_here : (leads : List Entry) (i : ℕ) (e : Entry) → holds_entry leads (unmarked e) ≡ false → is_from_run i e ≡ is_stray leads i e
stray_here leads i e none = sym (ap (λ (b : Bool). is_from_run i e && not b) none ∙ and_true (is_from_run i e))
  where
    and_true : (b : Bool) → (b && true) ≡ b
    and_true true = refl
    and_true false = refl

pub no_stray_here : (leads : List Entry) (i : ℕ) (e : Entry) → holds_entry leads (unmarked e) ≡ true → false ≡ is_stray leads i e
no_stray_here leads i e held = sym (ap (λ (b : Bool). is_from_run i e && not b) held ∙ and_off (is_from_run i e))
  where
    and_off : (b : Bool) → (b && false) ≡ false
    and_off true = refl
    and_off false = refl

-- where a stray is live by an earlier key, it says no more that one is
pub known_item : (place i : ℕ) (a b : Bool) (s : Strays) → (place ≡ i → (s.is_live || a) ≡ (s.is_live || b)) → with_answer (eqb place i) a s ≡ with_answer (eqb place i) b s
known_item place i a b s same =
    elim (cases_eq place i) [
      | inl here ↦ λ j. record { has_any = s.has_any; is_live = either (eqb place i && s.is_due) (same here) j; is_due = s.is_due && not (eqb place i) }
      | inr apart ↦
          ap (λ (x : Bool). with_answer x a s) (ne_eqb place i apart) ∙ sym (not_settled a s) ∙ not_settled b s ∙ sym (ap (λ (x : Bool). with_answer x b s) (ne_eqb place i apart))
    ]
  where
    either : (t : Bool) → (s.is_live || a) ≡ (s.is_live || b) → (s.is_live || (t && a)) ≡ (s.is_live || (t && b))
    either true is = is
    either false is = refl
