-- A follower of a log has the table after a prefix of it.
use Rattle.std.proofs.Common.{◌≡◌, ◌≤◌, ◌+◌, ℕ, zero, suc, true, List, [], ◌∷◌, Option, Some, None, length, take, drop, refl, sym, ap, ◌∙◌, subst, inl, inr, arith}
use Rattle.std.specs.Prelude.{slice_get}
use Rattle.std.specs.List.{AllByRecursion}
use Rattle.std.proofs.lemmas.List.{append-nil, drop_at, length-take}
use Rattle.strat_base.specs.Numbers.{be, number}
use Rattle.strat_base.specs.Change.{change_bytes, change_in}
use Rattle.strat_base.proofs.ChangeLemmas.{change_in-bytes}
use Rattle.strat_base.proofs.NumberLemmas.{length-be, number-be}
use Rattle.strat_base.specs.Change.{Change}
use Rattle.strat_model.specs.declared.replies.Refusal.TheVariants as why
use Rattle.strat_model.specs.declared.replies.Reply.{Reply}
use Rattle.strat_model.specs.declared.replies.Reply.TheVariants as reply
use Rattle.strat_model.specs.Answer.{Answer, accepts}
use Rattle.strat_model.specs.Run.{Position}
use Rattle.strat_model.specs.Step.{step}
use Rattle.strat_model.specs.Table.{Table, bare, fresh}
use Rattle.def_meaning.specs.StateTable.{request_for}
use Rattle.def_meaning.proofs.StateTableLemmas.{change_bare}
use Rattle.def_follow.specs.Following
use Rattle.def_follow.specs.Keeping.{IsOfLogAt, IsRightAt, IsKeptOf}
use Rattle.def_follow.specs.Following.{Receipt, Delivery, Receives, IsFollowing, IsBrokenOff, fate_for}
use Rattle.def_follow.specs.Log.{after_change, IsTakenAt, IsLog, table_of_log, IsOfLog}
use Rattle.def_follow.specs.Numbered.{Numbered, SpellsNumbered, IsInLog}
use Rattle.def_follow.proofs.LogLemmas.{change_counts, after_counts, one_more, front_taken}

-- a body has one number and one change
pub one_numbered : (body : List ℕ) (n m : Numbered) → SpellsNumbered body n → SpellsNumbered body m → n ≡ m
one_numbered body n m first second =
    let number : n.number ≡ m.number = sym (number-be 4 n.number (change_bytes n.change) first.fits) ∙ ap (number 4) (sym first.text ∙ second.text) ∙ number-be 4 m.number (change_bytes m.change) second.fits in
    let rest : change_bytes n.change ≡ change_bytes m.change =
    sym (drop_at (be 4 n.number) (change_bytes n.change) 4 (length-be 4 n.number)) ∙ ap (drop 4) (sym first.text ∙ second.text) ∙ drop_at (be 4 m.number) (change_bytes m.change) 4 (length-be 4 m.number) in
    let same : ◌≡◌ {A = Option Change} (Some n.change) (Some m.change) =
    sym (change_in-bytes n.change [] first.lawful) ∙ ap change_in (append-nil (change_bytes n.change) ∙ rest ∙ sym (append-nil (change_bytes m.change))) ∙ change_in-bytes m.change [] second.lawful in
    let change : n.change ≡ m.change = cc in
    (λ i. record { number = number i; change = change i })

-- a reply that accepts is no refusal
taken_fate : (r : Reply) → accepts r ≡ true → fate_for r ≡ Following.Taken
taken_fate reply.Done e = refl
taken_fate reply.Found e = refl
taken_fate reply.Absent e = refl
taken_fate (reply.Pairs more) e = refl
taken_fate (reply.Made version) e = refl
taken_fate (reply.Info parent depth frozen) e = refl
taken_fate (reply.Opened cursor) e = refl
taken_fate (reply.Stat versions updates changes cursors) e = refl
taken_fate (reply.Refused cause) e = absurd cc

module _ (changes_max versions_max : ℕ) (log : List Change) (is : IsLog changes_max versions_max log) where
  -- a table of a log has as many changes as its prefix
  pub place_is : (t : Table) (of : IsOfLog changes_max versions_max log t) → t.changes ≡ of.place
  place_is t of =
      ap (λ (x : Table). x.changes) of.table
      ∙ after_counts (fresh changes_max versions_max) (take of.place log) (front_taken (fresh changes_max versions_max) log of.place is)
      ∙ omega (arith, length-take of.place log, of.within)

  -- a change of the log that is next is accepted, and leads to a table of the log
  pub next_taken : (t : Table) (n : Numbered) → IsOfLog changes_max versions_max log t → IsInLog log n → n.number ≡ t.changes
      → IsTakenAt t n.change × IsOfLog changes_max versions_max log (after_change t n.change)
  next_taken t n of in_log here =
      let at : n.number ≡ of.place = here ∙ place_is t of in
      let more = one_more (fresh changes_max versions_max) log n.number n.change is in_log in
      let table : bare t ≡ table_of_log changes_max versions_max log n.number = of.table ∙ ap (table_of_log changes_max versions_max log) (sym at) in
      let same = change_bare t n.change in (
        ap (λ (a : Answer). accepts a.reply) same.1 ∙ ap (λ (x : Table). accepts (step x (request_for n.change)).answer.reply) table ∙ more.0,
        record {
          place = suc n.number;
          within = inside log n.number n.change in_log;
          table = same.0 ∙ ap (λ (x : Table). after_change x n.change) table ∙ sym more.1;
        },
      )
    where
      inside : (xs : List Change) (k : ℕ) (c : Change) → slice_get xs k ≡ Some c → suc k ≤ length xs
      inside [] k c e = absurd (let f : ◌≡◌ {A = Option Change} None (Some c) = e in cc)
      inside (x ∷ xs) zero c e = omega arith
      inside (x ∷ xs) (suc k) c e = omega (arith, inside xs k c e)

  -- one body that spells no change that is not of the log
  pub received : (mem : ℕ) (x : Delivery) (after : Position) → Receives mem x.at x.body x.receipt after → IsOfLogAt log x.body → IsOfLog changes_max versions_max log x.at.table
      → IsRightAt changes_max versions_max log x after
  received mem x after (inl none) there of = record {
    of_log = subst (λ (p : Position). IsOfLog changes_max versions_max log p.table) (sym none.same) of;
    rises = omega (arith, ap (λ (p : Position). p.table.changes) none.same);
    free = λ cause e. absurd (let f : Following.Malformed ≡ Following.Refused cause = sym (ap (λ (r : Receipt). r.fate) none.receipt) ∙ e in cc);
    holds = λ e. absurd (let f : Following.Malformed ≡ Following.Taken = sym (ap (λ (r : Receipt). r.fate) none.receipt) ∙ e in cc);
  }
  received mem x after (inr (inl over)) there of = record {
    of_log = subst (λ (p : Position). IsOfLog changes_max versions_max log p.table) (sym over.same) of;
    rises = omega (arith, ap (λ (p : Position). p.table.changes) over.same);
    free = λ cause e. absurd (elim over.turn [ inl old ↦ let f : Following.Old ≡ Following.Refused cause = sym old.1 ∙ e in cc | inr gap ↦ let f : Following.Gap ≡ Following.Refused cause = sym gap.1 ∙ e in cc ]);
    holds = λ e. absurd (elim over.turn [ inl old ↦ let f : Following.Old ≡ Following.Taken = sym old.1 ∙ e in cc | inr gap ↦ let f : Following.Gap ≡ Following.Taken = sym gap.1 ∙ e in cc ]);
  }
  received mem x after (inr (inr (inl given))) there of =
      let in_log : IsInLog log given.n = there given.n given.spelled in
      let here : given.n.number ≡ x.at.table.changes = given.turn in
      let next = next_taken x.at.table given.n of in_log here in
      let table : after.table ≡ after_change x.at.table given.n.change = given.place.table in
      let more : after.table.changes ≡ x.at.table.changes + 1 = ap (λ (t : Table). t.changes) table ∙ (change_counts x.at.table given.n.change).0 next.0 in
      let fate : x.receipt.fate ≡ Following.Taken = ap (λ (r : Receipt). r.fate) given.receipt ∙ taken_fate _ next.0 in
      record {
        of_log = subst (IsOfLog changes_max versions_max log) (sym table) next.1;
        rises = omega (arith, more);
        free = λ cause e. absurd (let f : Following.Taken ≡ Following.Refused cause = sym fate ∙ e in cc);
        holds = λ e. omega (arith, more, here, ap (λ (r : Receipt). r.number) given.receipt);
      }
  received mem x after (inr (inr (inr short))) there of = record {
    of_log = subst (λ (p : Position). IsOfLog changes_max versions_max log p.table) (sym short.same) of;
    rises = omega (arith, ap (λ (p : Position). p.table.changes) short.same);
    free = λ cause e. let f : Following.Refused why.NoMemory ≡ Following.Refused cause = sym (ap (λ (r : Receipt). r.fate) short.receipt) ∙ e in cc;
    holds = λ e. absurd (let f : Following.Refused why.NoMemory ≡ Following.Taken = sym (ap (λ (r : Receipt). r.fate) short.receipt) ∙ e in cc);
  }

  -- a whole run, in any order, with gaps and repeats
  pub followed : (mem : ℕ) (at : Position) (xs : List Delivery) (after : Position) → IsFollowing mem at xs after → AllByRecursion (λ (x : Delivery). IsOfLogAt log x.body) xs
      → IsOfLog changes_max versions_max log at.table → IsOfLog changes_max versions_max log after.table × (at.table.changes ≤ after.table.changes) × AllByRecursion (IsKeptOf changes_max versions_max log after) xs
  followed mem at [] after run there of = (subst (λ (p : Position). IsOfLog changes_max versions_max log p.table) (sym run) of, omega (arith, ap (λ (p : Position). p.table.changes) run), tt)
  followed mem at (x ∷ xs) after run there of =
      let here : IsOfLog changes_max versions_max log x.at.table = subst (λ (p : Position). IsOfLog changes_max versions_max log p.table) (sym run.0) of in
      let mid = run.1.0 in
      let right = received mem x mid (subst (λ (p : Position). Receives mem p x.body x.receipt mid) (sym run.0) run.1.1) there.0 here in
      let rest = followed mem mid xs after run.1.2 there.1 right.of_log in
      let first : at.table.changes ≡ x.at.table.changes = ap (λ (p : Position). p.table.changes) (sym run.0) in (
        rest.0,
        omega (arith, first, right.rises, rest.1),
        (
          record { before = here; free = right.free; holds = λ e. omega (arith, right.holds e, rest.1) },
          rest.2,
        ),
      )

  -- and where a fault broke it off, the table after the change is the log's too
  pub broken_off : (mem : ℕ) (at : Position) (body : List ℕ) (r : Receipt) (done : Position) → IsBrokenOff mem at body r done → IsOfLogAt log body → IsOfLog changes_max versions_max log at.table
      → IsOfLog changes_max versions_max log done.table
  broken_off mem at body r done is there of =
      let in_log : IsInLog log is.n = there is.n is.spelled in
      let next = next_taken at.table is.n of in_log is.turn in
      subst (IsOfLog changes_max versions_max log) (sym is.place.table) next.1
