use Rattle.std.proofs.Common.{◌≡◌, ◌≤◌, true, ltb, length, List, sym, ap, ◌∙◌, subst, arith, IsTrue}
use Rattle.std.specs.List.{list_all}
use Rattle.std.proofs.lemmas.Bool.{ltb-true}
use Rattle.std.proofs.lemmas.Option.{slice_get_past}
use Rattle.std.proofs.lemmas.List.{length-map}
use Rattle.strat_arena.specs.Items.{entry_of_item, entries_of}
use Rattle.strat_arena.specs.declared.items.Item.{Item}
use Rattle.strat_base.specs.Entries.{Entry}
use Rattle.strat_base.specs.EntryBytes.{fits_fields}
use Rattle.strat_promote.specs.ZeroFields.{copied}
use Rattle.strat_promote.proofs.ZeroLemmas.{passes_at}
use Rattle.strat_promote.proofs.zero_copy.ZeroRun.peek.Goals as goal

pub returns-then-self-items-clause-fits : goal.returns-then-self-items-clause-fits
returns-then-self-items-clause-fits c =
    ap fits_fields c.entry.ensures
    ∙ passes_at fits_fields c.args.self.now.arena.pairs c.items-items.result.now c.args.self.now.next _
    (subst (λ (items : List Item). IsTrue (list_all fits_fields (entries_of c.args.self.now.arena.pairs items))) (sym c.items-items.ensures.ok) c.args.self.now.lawful)
    c.if-self-items.true

pub returns-then-self-items-clause-room : goal.returns-then-self-items-clause-room
returns-then-self-items-clause-room c =
    let low : ltb c.entry.result.version c.args.self.now.horizon ≡ true =
    ap (λ (e : Entry). ltb e.version c.args.self.now.horizon) c.entry.ensures
    ∙ passes_at (λ e. ltb e.version c.args.self.now.horizon) c.args.self.now.arena.pairs c.items-items.result.now c.args.self.now.next _
    (subst (λ (items : List Item). IsTrue (list_all (λ e. ltb e.version c.args.self.now.horizon) (entries_of c.args.self.now.arena.pairs items))) (sym c.items-items.ensures.ok) c.args.self.now.low)
    c.if-self-items.true in
    ltb-true c.entry.result.version c.args.self.now.horizon low

pub returns-else-self-items-clause-ok : goal.returns-else-self-items-clause-ok
returns-else-self-items-clause-ok c =
    let past : length c.args.self.now.items ≤ c.args.self.now.next = subst (λ (items : List Item). length items ≤ c.args.self.now.next) c.items-items.ensures.ok c.if-self-items.false in
    sym (slice_get_past (copied c.args.self.now) c.args.self.now.next (omega (arith, length-map c.args.self.now.items (entry_of_item c.args.self.now.arena.pairs), past)))
