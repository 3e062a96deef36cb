-- Where a run begins.
use Rattle.std.proofs.Common.{◌≡◌, ℕ, [], Option, Some, length, sym, ap, subst, ◌∙◌}
use Rattle.std.specs.Prelude.{Contains, Ok}
use Rattle.def_crash.specs.Image.{Image}
use Rattle.def_crash.specs.Moments.{DiskView}
use Rattle.strat_cursor.specs.Held.{HeldCursors, AreRowsOf, no_cursors}
use Rattle.def_bytes.specs.Damage.{Read}
use Rattle.strat_model.specs.Run.{Position}
use Rattle.strat_model.specs.Table.{Table}
use Rattle.def_recovery.specs.Head.{Head}
use Rattle.def_meaning.specs.StateTable.{table_of}
use Rattle.def_publish.specs.Contents.{Contents, contents_head, contents_state}
use Rattle.def_publish.specs.Standing.{ShowsTable}
use Rattle.def_publish.proofs.FreeLemmas.{one_table}
use Rattle.def_publish.proofs.ListLemmas.{contained_among}
use Rattle.def_publish.proofs.PartsLemmas.{reads_head, state_parts}
use Rattle.def_state.specs.State.{State}
use Rattle.strat_open.specs.Following.{IsOpenedAs}
use Rattle.strat_memory.specs.Held.{Held, StandsAt, StandsWith, head_held, position_at, table_at}
use Rattle.strat_loop.specs.Session.{Begins, IsFoundAs}

-- a run that is served from an image begins at the table that it shows
pub begins_there : (c : Image) (t : Table) (mem : ℕ) (start : Position) → ShowsTable c t → Begins c mem start → start.table ≡ t
begins_there c t mem start shows begins = one_table c start.table t begins.shows shows

-- a run that opened its store from an image begins there
pub opens_begins : (before now : DiskView) (s : Held) (f : Image) (t : Table) (x : Contents) → IsOpenedAs before now s → s.log.mem ≡ s.sb.mem
    → before.content ≡ Some f → ShowsTable f t → table_of (contents_state x) ≡ t → Begins f s.log.mem (position_at s x []) × (table_at s x [] ≡ t)
opens_begins before now s f t x opened mem exposed shows table =
    let parts = state_parts f shows.state shows.reads in
    let both : ◌≡◌ {A = Read (Option Head)} (Ok (Some (contents_head parts.contents))) (Ok (Some (head_held s))) = sym (reads_head f parts.contents parts.reads) ∙ opened.found f exposed in
    let same : contents_head parts.contents ≡ head_held s = cc in
    let bare : table_at s x [] ≡ table_of (contents_state x) = ap (λ (c : HeldCursors). record (table_of (contents_state x)) { cursors = []; next_cursor = c.next }) opened.closed in (
      record {
        shows = record { state = shows.state; reads = shows.reads; sound = shows.sound; table = shows.table ∙ sym (bare ∙ table) };
        fill = ap (λ (h : Head). length h.journal) (sym same) ∙ ap (λ (u : State). length u.journal) parts.state;
        mem_is = mem ∙ ap (λ (h : Head). h.sb.mem) (sym same) ∙ ap (λ (u : State). u.mem) parts.state;
      },
      bare ∙ table,
    )

-- a store that has no cursors stands with none
pub stands_bare : (v : DiskView) (s : Held) (x : Contents) → s.memory.cursors ≡ no_cursors → StandsWith v s x → StandsAt v s x []
stands_bare v s x closed stands = record {
  stands = stands;
  rows_are = subst (λ (c : HeldCursors). AreRowsOf stands.stands.content s.memory.parents c.opened []) (sym closed) tt;
  going = λ c among. absurd (contained_among [] c (subst (λ (cs : HeldCursors). Contains cs.opened c) closed among));
}

-- recovery of each image finds what a store holds that stands on the disk
pub found_as : (v : DiskView) (s : Held) (x : Contents) → StandsWith v s x → IsFoundAs v s
found_as v s x stands c image = reads_head c x (stands.stands.reads c image) ∙ ap (λ (y : Contents). found_with (contents_head y)) stands.held
  where
    found_with : Head → Read (Option Head)
    found_with h = Ok (Some h)
