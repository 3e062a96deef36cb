use Rattle.std.proofs.Common.{List, refl, sym, subst}
use Rattle.strat_base.specs.Entries.{Entry}
use Rattle.strat_base.specs.EntryView.{entry_of}
use Rattle.strat_array.specs.Progress.{ArrayProgress}
use Rattle.strat_array.specs.Pushed.{IsPushed, IsWritten}
use Rattle.strat_array.specs.WriterFields.{progress_of}
use Rattle.strat_array.proofs.FilterLemmas.{pushed_more}
use Rattle.strat_array.proofs.writer.ArrayWriter.push.Goals as goal

pub returns-clause-ok : goal.returns-clause-ok
returns-clause-ok g c = λ f h es told tells pushed.
    pushed_more f h (progress_of c.self.inside) _ es (entry_of c.args.e.now)
    (λ stands. c.in_ok-push_entry.ensures.ok f h es told tells (subst (λ (pending : List Entry). IsWritten f c.self.inside.extents pending es) (sym c.deref_mut.ensures.value) stands))
    refl c.add_key.ensures.ok (subst (λ (w : ArrayProgress). IsPushed f w es) (sym c.self.view_is) pushed)
