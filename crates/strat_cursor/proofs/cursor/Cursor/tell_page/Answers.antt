use Rattle.std.proofs.Common.{rules, refl, ◌≡◌, Some}
use Rattle.def_crash.specs.Moments.{Exposes}
use Rattle.strat_cursor.specs.CursorFields.{cursor_seen}
use Rattle.strat_cursor.proofs.PageReads.{page_told}
use Rattle.strat_cursor.proofs.cursor.Cursor.tell_page.Goals as goal

pub returns-clause-ok : goal.returns-clause-ok
returns-clause-ok g c =
    let from : (cursor_seen c.self.inside).from ≡ Some c.deref.result.now = search (rules, c.in-Some.is, c.deref.ensures.value) in
    rw (← c.self.view_is)
    (page_told (Exposes (g.D.Disk.view c.args.disk.now)) _ (cursor_seen c.self.inside) _ _ _ _ _ _ c.scan.result refl c.as_ref.ensures.value refl refl from c.deref-2.ensures.value c.scan.ensures.ok)

pub returns-clause-reads : goal.returns-clause-reads
returns-clause-reads g c = rw (← c.self.view_is) c.scan.ensures.reads
