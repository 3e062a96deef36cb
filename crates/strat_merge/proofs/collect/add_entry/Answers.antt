use Rattle.std.proofs.Common.{◌≡◌, List, [], ◌∷◌, ◌++◌, length, sym, ap, ◌∙◌, arith}
use Rattle.strat_arena.specs.ArenaView.{KeyValue}
use Rattle.strat_base.specs.EntryView.{entry_of}
use Rattle.strat_arena.specs.Items.{said_by}
use Rattle.strat_merge.proofs.PassLemmas.{on_ok_map}
use Rattle.strat_merge.proofs.GroupLemmas.{entries_more, slots_more, size_small}
use Rattle.strat_merge.proofs.collect.add_entry.Goals as goal

pub overflow_cast-entry : goal.overflow_cast-entry
overflow_cast-entry c =
    let size = size_small (entry_of c.args.entry.now) _ c.requires.fits c.bytes_of_val-gone.ensures.fits in
    omega arith

-- the pair that is pushed
abbrev pushed : goal.After-push → KeyValue
pushed c = record { key = c.args.entry.now.key.now; value = c.bytes_of_val-gone.result.0.now }

after_is : (c : goal.After-push) → c.push-slot.new.self.pairs ≡ c.args.arena.now.pairs ++ pushed c ∷ []
after_is c = c.push-slot.ensures.ok ∙ ap (λ (ps : List KeyValue). ps ++ pushed c ∷ []) c.in_ok-reserve.ensures.same

slot_is : (c : goal.After-push) → c.push-slot.result.0 ≡ length c.args.arena.now.pairs
slot_is c = c.push-slot.ensures.found ∙ ap (λ (ps : List KeyValue). length ps) c.in_ok-reserve.ensures.same

abbrev Says : goal.After-push → Type 0
Says c =
    entry_of c.args.entry.now ≡ record {
      key = c.args.entry.now.key.now;
      version = c.args.entry.now.version;
      value = said_by c.bytes_of_val-gone.result.1 c.bytes_of_val-gone.result.0.now;
    }

says : (c : goal.After-push) → Says c
says c = ap (λ v. record { key = c.args.entry.now.key.now; version = c.args.entry.now.version; value = v }) (sym c.bytes_of_val-gone.ensures.ok)

pub returns-clause-ok : goal.returns-clause-ok
returns-clause-ok c =
    on_ok_map c.push.result c.push.ensures.ok (λ added. entries_more c.args.arena.now.pairs c.push-slot.new.self.pairs c.args.group.now c.push.new.self (pushed c) _ (entry_of c.args.entry.now) c.requires.kept (after_is c) (slot_is c) (says c) added)

pub returns-clause-kept : goal.returns-clause-kept
returns-clause-kept c =
    on_ok_map c.push.result c.push.ensures.ok (λ added. slots_more c.args.arena.now.pairs c.push-slot.new.self.pairs c.args.group.now c.push.new.self (pushed c) _ (entry_of c.args.entry.now) c.requires.kept (after_is c) (slot_is c) (says c) added)
