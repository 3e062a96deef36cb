-- How a body is answered, by what it is.
use Rattle.std.proofs.Common.{◌≡◌, ◌≤◌, ◌<◌, ◌⊎◌, ◌^◌, ℕ, zero, suc, leb, ltb, true, List, [], ◌∷◌, ◌++◌, Option, Some, None, length, take, refl, sym, ap, ◌∙◌, subst, inl, inr, arith, length-append}
use Rattle.std.specs.Prelude.{slice_get}
use Rattle.std.proofs.lemmas.Bool.{and_parts, leb-true}
use Rattle.strat_base.specs.Change.{Change, change_bytes, is_lawful}
use Rattle.strat_base.specs.Change as change
use Rattle.strat_base.specs.Fields.{key_field, value_field}
use Rattle.strat_base.specs.Numbers.{be}
use Rattle.strat_base.specs.Sizes.{is_key}
use Rattle.strat_base.proofs.FieldLemmas.{length-value_field}
use Rattle.strat_base.proofs.NumberLemmas.{length-be}
use Rattle.strat_model.specs.declared.replies.Refusal.{Refusal}
use Rattle.strat_model.specs.declared.replies.Refusal.TheVariants as why
use Rattle.strat_model.specs.Answer.{refusal}
use Rattle.strat_model.specs.Run.{Position, IsAfter, IsFault}
use Rattle.strat_model.specs.Spelling.{tag_of}
use Rattle.strat_model.specs.Step.{step}
use Rattle.def_meaning.specs.StateTable.{request_for}
use Rattle.def_follow.specs.Following
use Rattle.def_follow.specs.Following.{Delivery, Receipt, Receives, IsBrokenOff, fate_for}
use Rattle.def_follow.specs.Keeping.{IsKeptOf}
use Rattle.def_follow.specs.Log.{IsTakenAt}
use Rattle.def_follow.specs.Numbered.{Numbered, SpellsNumbered, IsInLog}
use Rattle.def_follow.proofs.FollowLemmas.{one_numbered}

pub malformed_alone : (mem : ℕ) (at : Position) (body : List ℕ) → ((n : Numbered) → SpellsNumbered body n → ⊥) → (r : Receipt) (after : Position) → Receives mem at body r after
    → (after ≡ at) × (r ≡ record { number = tag_of body; fate = Following.Malformed; next = at.table.changes })
malformed_alone mem at body none r after (inl how) = (how.same, how.receipt)
malformed_alone mem at body none r after (inr (inl how)) = absurd (none how.n how.spelled)
malformed_alone mem at body none r after (inr (inr (inl how))) = absurd (none how.n how.spelled)
malformed_alone mem at body none r after (inr (inr (inr how))) = absurd (none how.n how.spelled)

-- two readings of a body have one number
same_number : (body : List ℕ) (n m : Numbered) → SpellsNumbered body n → SpellsNumbered body m → n.number ≡ m.number
same_number body n m first second = ap (λ (x : Numbered). x.number) (one_numbered body n m first second)

-- a receipt by its parts
receipt_is : (r : Receipt) (number : ℕ) (fate : Following.Fate) (next : ℕ) → r.number ≡ number → r.fate ≡ fate → r.next ≡ next → r ≡ record { number = number; fate = fate; next = next }
receipt_is r number fate next a b c = (λ i. record { number = a i; fate = b i; next = c i })

pub old_alone : (mem : ℕ) (at after : Position) (body : List ℕ) (r : Receipt) (n : Numbered) → Receives mem at body r after → SpellsNumbered body n → n.number < at.table.changes
    → (after ≡ at) × (r ≡ record { number = n.number; fate = Following.Old; next = at.table.changes })
old_alone mem at after body r n (inl how) spelled less = absurd (how.none n spelled)
old_alone mem at after body r n (inr (inl how)) spelled less =
    let same = same_number body how.n n how.spelled spelled in (
      how.same,
      elim how.turn [
        | inl old ↦ receipt_is r n.number Following.Old at.table.changes (how.number ∙ same) old.1 how.next
        | inr gap ↦ absurd (omega (arith, same, less, gap.0))
      ],
    )
old_alone mem at after body r n (inr (inr (inl how))) spelled less = absurd (omega (arith, same_number body how.n n how.spelled spelled, less, how.turn))
old_alone mem at after body r n (inr (inr (inr how))) spelled less = absurd (omega (arith, same_number body how.n n how.spelled spelled, less, how.turn))

pub gap_alone : (mem : ℕ) (at after : Position) (body : List ℕ) (r : Receipt) (n : Numbered) → Receives mem at body r after → SpellsNumbered body n → at.table.changes < n.number
    → (after ≡ at) × (r ≡ record { number = n.number; fate = Following.Gap; next = at.table.changes })
gap_alone mem at after body r n (inl how) spelled less = absurd (how.none n spelled)
gap_alone mem at after body r n (inr (inl how)) spelled less =
    let same = same_number body how.n n how.spelled spelled in (
      how.same,
      elim how.turn [
        | inl old ↦ absurd (omega (arith, same, less, old.0))
        | inr gap ↦ receipt_is r n.number Following.Gap at.table.changes (how.number ∙ same) gap.1 how.next
      ],
    )
gap_alone mem at after body r n (inr (inr (inl how))) spelled less = absurd (omega (arith, same_number body how.n n how.spelled spelled, less, how.turn))
gap_alone mem at after body r n (inr (inr (inr how))) spelled less = absurd (omega (arith, same_number body how.n n how.spelled spelled, less, how.turn))

pub next_answered : (mem : ℕ) (at after : Position) (body : List ℕ) (r : Receipt) (n : Numbered) → Receives mem at body r after → SpellsNumbered body n → n.number ≡ at.table.changes
    → (r.number ≡ n.number) × (r.next ≡ after.table.changes)
    × (((r.fate ≡ fate_for (step at.table (request_for n.change)).answer.reply) × IsAfter mem at (request_for n.change) after)
    ⊎ ((r.fate ≡ Following.Refused why.NoMemory) × IsTakenAt at.table n.change × (mem ≤ at.fill) × (after ≡ at)))
next_answered mem at after body r n (inl how) spelled same = absurd (how.none n spelled)
next_answered mem at after body r n (inr (inl how)) spelled same =
    let one = same_number body how.n n how.spelled spelled in
    absurd (elim how.turn [ inl old ↦ omega (arith, one, same, old.0) | inr gap ↦ omega (arith, one, same, gap.0) ])
next_answered mem at after body r n (inr (inr (inl how))) spelled same =
    let one : how.n ≡ n = one_numbered body how.n n how.spelled spelled in (
      ap (λ (x : Receipt). x.number) how.receipt ∙ ap (λ (x : Numbered). x.number) one,
      ap (λ (x : Receipt). x.next) how.receipt,
      inl (
        ap (λ (x : Receipt). x.fate) how.receipt ∙ ap (λ (x : Numbered). fate_for (step at.table (request_for x.change)).answer.reply) one,
        subst (λ (x : Numbered). IsAfter mem at (request_for x.change) after) one how.place,
      ),
    )
next_answered mem at after body r n (inr (inr (inr how))) spelled same =
    let one : how.n ≡ n = one_numbered body how.n n how.spelled spelled in (
      ap (λ (x : Receipt). x.number) how.receipt ∙ ap (λ (x : Numbered). x.number) one,
      ap (λ (x : Receipt). x.next) how.receipt ∙ ap (λ (p : Position). p.table.changes) (sym how.same),
      inr (
        ap (λ (x : Receipt). x.fate) how.receipt,
        subst (λ (x : Numbered). IsTakenAt at.table x.change) one how.accepted,
        how.full,
        how.same,
      ),
    )

pub malformed_given : (mem : ℕ) (at : Position) (body : List ℕ) → ((n : Numbered) → SpellsNumbered body n → ⊥)
    → Receives mem at body (record { number = tag_of body; fate = Following.Malformed; next = at.table.changes }) at
malformed_given mem at body none = inl (record { none = none; receipt = refl; same = refl })

pub passed_given : (mem : ℕ) (at : Position) (body : List ℕ) (n : Numbered) → SpellsNumbered body n
    → (n.number < at.table.changes → Receives mem at body (record { number = n.number; fate = Following.Old; next = at.table.changes }) at)
    × (at.table.changes < n.number → Receives mem at body (record { number = n.number; fate = Following.Gap; next = at.table.changes }) at)
passed_given mem at body n spelled = (
  λ less. inr (inl (record { n = n; spelled = spelled; turn = inl (less, refl); number = refl; next = refl; same = refl })),
  λ less. inr (inl (record { n = n; spelled = spelled; turn = inr (less, refl); number = refl; next = refl; same = refl })),
)

pub next_given : (mem : ℕ) (at after : Position) (body : List ℕ) (n : Numbered) → SpellsNumbered body n → n.number ≡ at.table.changes
    → (IsAfter mem at (request_for n.change) after → Receives mem at body (record { number = n.number; fate = fate_for (step at.table (request_for n.change)).answer.reply; next = after.table.changes }) after)
    × (IsTakenAt at.table n.change → mem ≤ at.fill → Receives mem at body (record { number = n.number; fate = Following.Refused why.NoMemory; next = at.table.changes }) at)
next_given mem at after body n spelled same = (
  λ place. inr (inr (inl (record { n = n; spelled = spelled; turn = same; place = place; receipt = refl }))),
  λ accepted full. inr (inr (inr (record { n = n; spelled = spelled; turn = same; accepted = accepted; full = full; receipt = refl; same = refl }))),
)

pub fault_parts : (mem : ℕ) (at done : Position) (body : List ℕ) (r : Receipt) → IsBrokenOff mem at body r done
    → (n : Numbered) × SpellsNumbered body n × (n.number ≡ at.table.changes) × IsTakenAt at.table n.change × IsAfter mem at (request_for n.change) done
    × ((cause : Refusal) × IsFault (refusal cause) × (r ≡ record { number = n.number; fate = Following.Refused cause; next = at.table.changes }))
fault_parts mem at done body r is = (is.n, is.spelled, is.turn, is.accepted, is.place, (is.cause, is.fault, is.receipt))

-- what stands in front of a place of a list stands there in what is in front of it
get_front : {A : Type 0} (xs : List A) (m n : ℕ) (x : A) → n < m → slice_get xs n ≡ Some x → slice_get (take m xs) n ≡ Some x
get_front {A} [] m n x less e = absurd (let f : ◌≡◌ {A = Option A} None (Some x) = e in cc)
get_front (y ∷ ys) zero n x less e = absurd (omega (arith, less))
get_front (y ∷ ys) (suc m) zero x less e = e
get_front (y ∷ ys) (suc m) (suc n) x less e = get_front ys m n x (omega (arith, less)) e

pub taken_in_front : (changes_max versions_max : ℕ) (log : List Change) (after : Position) (x : Delivery) (n : Numbered) → IsKeptOf changes_max versions_max log after x → IsInLog log n
    → x.receipt.number ≡ n.number → x.receipt.fate ≡ Following.Taken → slice_get (take after.table.changes log) n.number ≡ Some n.change
taken_in_front changes_max versions_max log after x n kept in_log same taken =
    get_front log after.table.changes n.number n.change (omega (arith, same, kept.holds taken)) in_log

-- six bytes are no lawful change
no_six : (c : Change) → is_lawful c ≡ true → length (change_bytes c) ≡ 6 → ⊥
no_six (change.Put v key value) lawful e = absurd (omega (arith, e, length-append (be 4 v) (key_field key ++ value_field value), length-append (key_field key) (value_field value), length-be 4 v, length-value_field value))
no_six (change.Delete v key) lawful e =
    let parts = and_parts (ltb v (2 ^ 32)) (is_key key) lawful in
    absurd (omega (arith, e, length-append (be 4 v) (key_field key), length-be 4 v, leb-true 1 (length key) (and_parts (leb 1 (length key)) (leb (length key) 255) parts.1).0))
no_six (change.Clone v) lawful e = absurd (omega (arith, e, length-be 4 v))
no_six (change.DropVersion v) lawful e = absurd (omega (arith, e, length-be 4 v))

-- ten bytes are no number with a change
pub no_ten : (body : List ℕ) → length body ≡ 10 → (n : Numbered) → SpellsNumbered body n → ⊥
no_ten body ten n spelled =
    no_six n.change spelled.lawful (omega (arith, ten, ap length spelled.text, length-append (be 4 n.number) (change_bytes n.change), length-be 4 n.number))
