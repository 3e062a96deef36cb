use Rattle.std.proofs.Common.{◌≡◌, ◌+◌, ◌*◌, ℕ, IsSome, IfSome, drop, Option, Some, None, [], refl, sym, ◌∙◌, subst, arith, get_or}
use Rattle.strat_base.specs.Entries.{Entry}
use Rattle.strat_base.specs.EntryBytes.{entry_at, BeginsWithEntry}
use Rattle.strat_base.specs.EntryView.{entry_of}
use Rattle.strat_base.specs.Finds.{Finds}
use Rattle.strat_base.specs.declared.entries.Entry.{Entry as Borrowed}
use Rattle.strat_block.specs.Places.{entries_of_block}
use Rattle.strat_block.proofs.BlockFacts.{held_stands, number_there, offset_within, begins_there, read_there}
use Rattle.strat_block.proofs.view.entry_at_place.Goals as goal

pub overflow_mul-i : goal.overflow_mul-i
overflow_mul-i c = let l = offset_within c.args.bytes.now c.requires.kept c.args.i c.requires.fits in omega arith

pub overflow_add-i : goal.overflow_add-i
overflow_add-i c = let l = offset_within c.args.bytes.now c.requires.kept c.args.i c.requires.fits in omega arith

pub unwrap-at-requires : goal.unwrap-at-requires
unwrap-at-requires c =
    let l = offset_within c.args.bytes.now c.requires.kept c.args.i c.requires.fits in
    let s = (held_stands c.args.bytes.now c.requires.kept).len in
    let e = c.get_u16.ensures ∙ number_there c.args.bytes.now (2 + 2 * c.args.i) (omega arith) in
    subst (λ (o : Option ℕ). IsSome o) (sym e) refl

offset_is : (at : ℕ) (o : Option ℕ) (p : Option ℕ) → o ≡ Some at → o ≡ p → Some at ≡ p
offset_is at o p e f = sym e ∙ f

pub unwrap-requires : goal.unwrap-requires
unwrap-requires c =
    let at = offset_is c.unwrap-at.result c.get_u16.result _ c.unwrap-at.ensures c.get_u16.ensures in
    let d : Entry = record { key = []; version = 0; value = None } in
    c.get_entry.ensures.none (get_or (entries_of_block c.args.bytes.now) c.args.i d) (begins_there c.args.bytes.now c.requires.kept c.args.i c.requires.fits c.unwrap-at.result at d)

pub returns : goal.returns
returns c =
    let at = offset_is c.unwrap-at.result c.get_u16.result _ c.unwrap-at.ensures c.get_u16.ensures in
    let found = subst (λ (o : Option (Borrowed × ℕ)). Finds (λ r. (entry_of r.0, r.1)) o (entry_at c.args.bytes.now c.unwrap-at.result)) c.unwrap.ensures c.get_entry.ensures.ok in
    let begins = subst (λ (o : Option (Borrowed × ℕ)). IfSome o (λ r. BeginsWithEntry (drop c.unwrap-at.result c.args.bytes.now) (entry_of r.0))) c.unwrap.ensures c.get_entry.ensures.found in
    record {
      fits = begins.lawful;
      ok = λ d. read_there c.args.bytes.now c.requires.kept c.args.i c.requires.fits c.unwrap-at.result at d (entry_of c.unwrap.result.0) c.unwrap.result.1 found;
    }
