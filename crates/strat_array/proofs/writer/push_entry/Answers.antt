use Rattle.std.proofs.Common.{◌≡◌, List, ◌++◌, ◌∷◌, [], Some, Bool, cond, ap, ◌∙◌, subst}
use Rattle.strat_base.specs.Entries.{Entry}
use Rattle.strat_base.specs.EntryView.{entry_of}
use Rattle.def_bytes.specs.Arrays.{blocks_of, entries_on}
use Rattle.strat_array.proofs.PushLemmas.{blocks_after, pushed_alone, pushed_anew}
use Rattle.strat_array.proofs.writer.push_entry.Goals as goal

pub returns-clause-ok : goal.returns-clause-ok
returns-clause-ok g c = λ f h es told now old.
    let e : Entry = entry_of c.args.e.now in
    pushed_anew f h c.args.extents.now c.write_pending.new.extents c.args.pending.now c.push-2.new.self es e
    (pushed_alone c.write_pending.new.pending c.push-2.new.self e c.push-2.result c.requires.fits c.in_ok-write_pending.ensures.state c.push-2.ensures.room c.push-2.ensures.ok)
    (λ xs read.
    subst (λ (l : List Entry). entries_on h (blocks_of c.write_pending.new.extents) ≡ Some (xs ++ l)) c.if-push.ensures.same
    (c.in_ok-write_pending.ensures.ok f h xs told now read))
    old

pub returns-clause-state : goal.returns-clause-state
returns-clause-state g c =
    let e : Entry = entry_of c.args.e.now in
    pushed_alone c.write_pending.new.pending c.push-2.new.self e c.push-2.result c.requires.fits c.in_ok-write_pending.ensures.state c.push-2.ensures.room c.push-2.ensures.ok
    ∙ ap (λ (t : Bool). cond t (c.args.pending.now ++ e ∷ []) (e ∷ [])) c.if-push.ensures.room

pub returns-clause-len : goal.returns-clause-len
returns-clause-len g c =
    let e : Entry = entry_of c.args.e.now in
    blocks_after c.args.extents.now c.write_pending.new.extents c.args.pending.now c.push.new.self c.write_pending.new.pending c.push-2.new.self e c.requires.fits c.if-push.ensures.room
    c.if-push.ensures.same c.in_ok-write_pending.ensures.state c.in_ok-write_pending.ensures.len
    (pushed_alone c.write_pending.new.pending c.push-2.new.self e c.push-2.result c.requires.fits c.in_ok-write_pending.ensures.state c.push-2.ensures.room c.push-2.ensures.ok)
