use Rattle.std.proofs.Common.{◌≡◌, ◌+◌, List, ◌++◌, ◌∷◌, [], length, true, leb, sym, ap, ◌∙◌, subst, arith}
use Rattle.std.proofs.Math.ListN.{set}
use Rattle.std.proofs.lemmas.Bool.{le-leb, lt-leb}
use Rattle.strat_base.specs.Entries.{Entry, is_ascending}
use Rattle.strat_base.specs.EntryView.{entry_of}
use Rattle.def_bytes.specs.Block.{block_front}
use Rattle.strat_block.specs.Collected.{Collected, collected}
use Rattle.strat_block.proofs.WriterLemmas.{collected_is, collected_self, written_more, more_front, fewer}
use Rattle.strat_block.proofs.writer.BlockWriter.push.Goals as goal

up_from : (old now : List Entry) (e : Entry) → old ≡ now → is_ascending (now ++ e ∷ []) ≡ true → is_ascending (old ++ e ∷ []) ≡ true
up_from old now e same up = subst (λ (x : List Entry). is_ascending (x ++ e ∷ []) ≡ true) (sym same) up

test_same : (old now : List Entry) (e : Entry) → old ≡ now → leb (length (block_front (now ++ e ∷ []))) 4096 ≡ leb (length (block_front (old ++ e ∷ []))) 4096
test_same old now e same = ap (λ (x : List Entry). leb (length (block_front (x ++ e ∷ []))) 4096) (sym same)

pub returns-then-self-size-gt-BLOCK-clause-room : goal.returns-then-self-size-gt-BLOCK-clause-room
returns-then-self-size-gt-BLOCK-clause-room c =
    let w = c.self.inside in
    let e : Entry = entry_of c.args.e.now in
    let es : List Entry = collected w.count w.text in
    let up = up_from es c.args.self.now e c.self.view_is c.requires.kept in
    let front = more_front es w.count w.used w.starts w.text c.self.invariant e c.requires.fits up c.entry_size-size.result c.entry_size-size.ensures.ok in
    sym (test_same es c.args.self.now e c.self.view_is ∙ lt-leb (length (block_front (es ++ e ∷ []))) 4096 (omega arith))

pub bounds-self-inside-self-inside : goal.bounds-self-inside-self-inside
bounds-self-inside-self-inside c =
    let w = c.self.inside in
    let e : Entry = entry_of c.args.e.now in
    let es : List Entry = collected w.count w.text in
    let up = up_from es c.args.self.now e c.self.view_is c.requires.kept in
    fewer es w.count w.used w.starts w.text c.self.invariant e c.requires.fits up c.entry_size-size.result c.entry_size-size.ensures.ok c.if-self-size-gt-BLOCK.false

more : (c : goal.After-self-2-1) → Collected (collected c.self.inside.count c.self.inside.text ++ entry_of c.args.e.now ∷ []) (c.self.inside.count + 1) (c.self.inside.used + c.entry_size-size.result) (set c.self.inside.starts c.self.inside.count c.self.inside.used) c.put_entry.new.into
more c =
    let w = c.self.inside in
    let e : Entry = entry_of c.args.e.now in
    let es : List Entry = collected w.count w.text in
    let up = up_from es c.args.self.now e c.self.view_is c.requires.kept in
    written_more es w.count w.used w.starts w.text c.self.invariant e c.requires.fits up c.entry_size-size.result c.entry_size-size.ensures.ok c.if-self-size-gt-BLOCK.false
    c.self.told.0 c.self.told.1 c.put_entry.new.into c.put_entry.ensures.ok

pub invariant_of-self : goal.invariant_of-self
invariant_of-self c = collected_self _ _ _ _ _ (more c)

pub returns-clause-room : goal.returns-clause-room
returns-clause-room c =
    let w = c.self.inside in
    let e : Entry = entry_of c.args.e.now in
    let es : List Entry = collected w.count w.text in
    let up = up_from es c.args.self.now e c.self.view_is c.requires.kept in
    let front = more_front es w.count w.used w.starts w.text c.self.invariant e c.requires.fits up c.entry_size-size.result c.entry_size-size.ensures.ok in
    sym (test_same es c.args.self.now e c.self.view_is ∙ le-leb (length (block_front (es ++ e ∷ []))) 4096 (omega arith))

pub returns-clause-ok : goal.returns-clause-ok
returns-clause-ok c =
    let e : Entry = entry_of c.args.e.now in
    collected_is _ _ _ _ _ (more c) ∙ ap (λ (x : List Entry). x ++ e ∷ []) c.self.view_is
