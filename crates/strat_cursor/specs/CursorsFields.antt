-- The fields of cursors.
use Rattle.std.specs.Prelude.{◌≤◌, length, vec_capacity, IsTrue}
use Rattle.strat_base.specs.declared.limits.TheConstants.{CURSORS_MAX}
use Rattle.strat_cursor.specs.Cursors.{CursorsView, AreNumberedBelow, are_named}
use Rattle.strat_cursor.specs.declared.cursors.Cursors.TheInside.{Inside}

-- the cursors of these fields
abbrev pub cursors_seen : Inside → CursorsView
cursors_seen a = record {
  opened = a.opened.items;
  next = a.next;
  retired = a.retired.items;
  room = vec_capacity a.retired;
}

-- cursors have numbers below the next one, and are as many as there is room for; each retired array is
-- named by one of them
pub record AreOpened (a : Inside) : Type 0 where
  pub numbered : AreNumberedBelow a.opened.items a.next
  pub few : length a.opened.items ≤ CURSORS_MAX
  pub space : CURSORS_MAX ≤ vec_capacity a.opened
  pub named : IsTrue (are_named a.opened.items a.retired.items)
