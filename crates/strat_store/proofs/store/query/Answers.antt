use Rattle.std.proofs.Common.{◌≡◌, refl, sym, ap, ◌∙◌}
use Rattle.std.proofs.lemmas.List.Elements.{Contains-append_left}
use Rattle.strat_cursor.proofs.ThroughLemmas.{through_refl}
use Rattle.strat_cursor.specs.Looking.{arrays_there}
use Rattle.strat_model.specs.Answer.{as_told, plain}
use Rattle.strat_model.specs.Command.{request_of}
use Rattle.strat_model.specs.Request.{Get, Info, NextPairs, Scan, Stat}
use Rattle.strat_model.specs.Spelling.{has_lawful_sizes}
use Rattle.strat_model.specs.declared.commands.Command.{Command}
use Rattle.strat_model.specs.declared.replies.Refusal.TheVariants as why
use Rattle.strat_model.specs.declared.replies.Reply.TheVariants as reply
use Rattle.def_meaning.specs.StateTable.{table_of}
use Rattle.def_publish.specs.Contents.{contents_state}
use Rattle.strat_store.specs.Applying.{is_fault}
use Rattle.strat_memory.specs.RecoveredFields.{held_of}
use Rattle.strat_store.proofs.ApplyLemmas.{changes_left, cursor_refused, fails_none, get_same, info_calm, info_finds, info_here, info_says, info_short, key_short, look_applied, memory_applied, next_fits, no_pairs, other_than, pairs_beside, range_short, reads_known, reads_still, scan_fits, scan_same, stat_finds, stat_here, stat_short, tells_calm, tells_look, unknown_answer, version_refused}
use Rattle.strat_store.proofs.CursoringLemmas.{closing_applied, looks_wider, opened_applied}
use Rattle.strat_store.proofs.store.query.Goals as goal
use Rattle.strat_memory.specs.Memory.{has_version}

pub returns-in-Get-clause-ok : goal.returns-in-Get-clause-ok
returns-in-Get-clause-ok g c = λ x rows at.
    let s = held_of c.args.held.now c.args.cache.now in
    rw (c.in-Get.is)
    (look_applied (g.D.Disk.view c.args.disk.now) (g.D.Disk.view c.get.new.disk) s x rows c.get.new.cache (c.requires.kept c.args.cache.now) at c.get.ensures.same (g.met.D.Disk.leaves_content c.get.new.disk)
    (Get c.in-Get.version c.in-Get.key.now) (as_told c.get.result c.get.new.out) refl refl (get_same (table_of (contents_state x)) rows s.memory.cursors.next c.in-Get.version c.in-Get.key.now) (c.get.ensures.ok x at.stands))

pub returns-in-Get-clause-found : goal.returns-in-Get-clause-found
returns-in-Get-clause-found g c = λ old f exposed calm. rw (c.in-Get.is) (
  λ off. unknown_answer c.get.result c.get.new.out (c.get.ensures.none off).0 (c.get.ensures.len.1 (λ found. other_than (sym (c.get.ensures.none off).0 ∙ found))),
  λ known. (c.get.ensures.end known, λ reads. c.get.ensures.found f exposed reads.ordered (record { old = old; same = reads.cached }) calm known),
)

pub returns-in-Get-clause-len : goal.returns-in-Get-clause-len
returns-in-Get-clause-len g c = rw (c.in-Get.is) (pairs_beside c.get.result c.get.new.out c.get.ensures.len.0 c.get.ensures.len.1)

pub returns-in-Get-clause-same : goal.returns-in-Get-clause-same
returns-in-Get-clause-same g c = (
  looks_wider _ _ (arrays_there c.args.held.now.published.levels) _ _ _ (λ a of. Contains-append_left (arrays_there c.args.held.now.published.levels) c.args.held.now.memory.cursors.retired a of) c.get.ensures.same,
  rw (c.in-Get.is) (reads_known (has_version c.args.held.now.memory c.in-Get.version) _ _ _ c.get.ensures.reads (λ off. ap (λ (d : _). g.D.Disk.reads d) (c.get.ensures.none off).1)),
)

pub returns-in-Get-clause-cause : goal.returns-in-Get-clause-cause
returns-in-Get-clause-cause g c =
    let s = held_of c.args.held.now c.args.cache.now in
    rw (c.in-Get.is) (
      c.get.ensures.cause,
      tells_look (g.D.Disk.view c.args.disk.now) s (Get c.in-Get.version c.in-Get.key.now) c.get.result (reply.Refused why.UnknownVersion) refl refl refl
          (key_short (has_version c.args.held.now.memory c.in-Get.version) c.get.result c.get.ensures.end (λ off. (c.get.ensures.none off).0))
          (λ q refused. (c.get.ensures.none (version_refused s.memory c.in-Get.version q refused)).0) c.get.ensures.err,
    )

pub scan_range-requires-clause-fits : goal.scan_range-requires-clause-fits
scan_range-requires-clause-fits g c =
    scan_fits c.in-Scan.version c.in-Scan.lo.now c.in-Scan.hi.now c.in-Scan.limit (ap (λ (asked : Command). has_lawful_sizes (request_of asked)) (sym c.in-Scan.is) ∙ c.requires.fits)

pub returns-in-Scan-clause-ok : goal.returns-in-Scan-clause-ok
returns-in-Scan-clause-ok g c = λ x rows at.
    let s = held_of c.args.held.now c.args.cache.now in
    rw (c.in-Scan.is)
    (look_applied (g.D.Disk.view c.args.disk.now) (g.D.Disk.view c.scan_range.new.disk) s x rows c.scan_range.new.cache (c.requires.kept c.args.cache.now) at c.scan_range.ensures.same
    (g.met.D.Disk.leaves_content c.scan_range.new.disk) (Scan c.in-Scan.version c.in-Scan.lo.now c.in-Scan.hi.now c.in-Scan.limit) (as_told c.scan_range.result c.scan_range.new.out) refl refl
    (scan_same (table_of (contents_state x)) rows s.memory.cursors.next c.in-Scan.version c.in-Scan.lo.now c.in-Scan.hi.now c.in-Scan.limit) (c.scan_range.ensures.ok x at.stands))

pub returns-in-Scan-clause-found : goal.returns-in-Scan-clause-found
returns-in-Scan-clause-found g c = λ old f exposed calm. rw (c.in-Scan.is) (
  λ off. unknown_answer c.scan_range.result c.scan_range.new.out (c.scan_range.ensures.none off).0 (c.scan_range.ensures.none off).2,
  λ known. (c.scan_range.ensures.end known, λ reads pairs asked. c.scan_range.ensures.found f pairs exposed reads.ordered (record { old = old; same = reads.cached }) calm known asked),
)

pub returns-in-Scan-clause-len : goal.returns-in-Scan-clause-len
returns-in-Scan-clause-len g c = rw (c.in-Scan.is) (c.scan_range.ensures.len)

pub returns-in-Scan-clause-same : goal.returns-in-Scan-clause-same
returns-in-Scan-clause-same g c = (
  looks_wider _ _ (arrays_there c.args.held.now.published.levels) _ _ _ (λ a of. Contains-append_left (arrays_there c.args.held.now.published.levels) c.args.held.now.memory.cursors.retired a of) c.scan_range.ensures.same,
  rw (c.in-Scan.is) (reads_known (has_version c.args.held.now.memory c.in-Scan.version) _ _ _ c.scan_range.ensures.reads (λ off. ap (λ (d : _). g.D.Disk.reads d) (c.scan_range.ensures.none off).1)),
)

pub returns-in-Scan-clause-cause : goal.returns-in-Scan-clause-cause
returns-in-Scan-clause-cause g c =
    let s = held_of c.args.held.now c.args.cache.now in
    rw (c.in-Scan.is) (
      c.scan_range.ensures.cause,
      tells_look (g.D.Disk.view c.args.disk.now) s (Scan c.in-Scan.version c.in-Scan.lo.now c.in-Scan.hi.now c.in-Scan.limit) c.scan_range.result (reply.Refused why.UnknownVersion) refl refl refl
          (range_short (has_version c.args.held.now.memory c.in-Scan.version) c.scan_range.result c.scan_range.ensures.end (λ off. (c.scan_range.ensures.none off).0))
          (λ q refused. (c.scan_range.ensures.none (version_refused s.memory c.in-Scan.version q refused)).0) (λ b bad. (c.scan_range.ensures.damaged b bad).1),
    )

pub returns-in-Scan-clause-damaged : goal.returns-in-Scan-clause-damaged
returns-in-Scan-clause-damaged g c = λ b bad. (c.scan_range.ensures.damaged b bad).0

pub returns-in-Info-clause-ok : goal.returns-in-Info-clause-ok
returns-in-Info-clause-ok g c = λ x rows at.
    let s = held_of c.args.held.now c.args.cache.now in
    let whole = c.requires.kept c.args.cache.now in
    let told = info_here (g.D.Disk.view c.args.disk.now) s x rows whole at c.in-Info.version c.info.result c.info.ensures.found c.info.ensures.none in
    rw (c.in-Info.is, c.requires.room) (memory_applied (g.D.Disk.view c.args.disk.now) s x rows whole at (Info c.in-Info.version) (plain c.info.result) refl refl told)

pub returns-in-Info-clause-found : goal.returns-in-Info-clause-found
returns-in-Info-clause-found g c = λ old f exposed calm. rw (c.in-Info.is, c.requires.room) (info_says c.args.held.now.memory c.in-Info.version c.info.result c.info.ensures.found c.info.ensures.none)

pub returns-in-Info-clause-len : goal.returns-in-Info-clause-len
returns-in-Info-clause-len g c =
    let other = info_finds c.args.held.now.memory c.in-Info.version (has_version c.args.held.now.memory c.in-Info.version) c.info.result c.info.ensures.found c.info.ensures.none in
    rw (c.in-Info.is) (no_pairs c.info.result c.args.out.now other c.requires.room)

pub returns-in-Info-clause-same : goal.returns-in-Info-clause-same
returns-in-Info-clause-same g c = (through_refl _ _ _, reads_still _ _)

pub returns-in-Info-clause-cause : goal.returns-in-Info-clause-cause
returns-in-Info-clause-cause g c =
    let calm = info_calm c.args.held.now.memory c.in-Info.version c.info.result c.info.ensures.found c.info.ensures.none in (
      fails_none (g.D.Disk.faults c.args.disk.now) c.info.result calm,
      tells_calm (g.D.Disk.view c.args.disk.now) (held_of c.args.held.now c.args.cache.now) _ c.info.result calm
          (λ short. absurd (info_short c.args.held.now.memory c.in-Info.version c.info.result c.info.ensures.found c.info.ensures.none short)),
    )

pub returns-in-Stat-clause-ok : goal.returns-in-Stat-clause-ok
returns-in-Stat-clause-ok g c = λ x rows at.
    let s = held_of c.args.held.now c.args.cache.now in
    let whole = c.requires.kept c.args.cache.now in
    let told = stat_here (g.D.Disk.view c.args.disk.now) s x rows whole at in
    rw (c.in-Stat.is, c.requires.room) (memory_applied (g.D.Disk.view c.args.disk.now) s x rows whole at Stat (plain c.stat.result) refl refl (ap plain c.stat.ensures.ok ∙ told))

pub returns-in-Stat-clause-found : goal.returns-in-Stat-clause-found
returns-in-Stat-clause-found g c = λ old f exposed calm. rw (c.in-Stat.is, c.requires.room) (ap plain c.stat.ensures.ok)

pub returns-in-Stat-clause-len : goal.returns-in-Stat-clause-len
returns-in-Stat-clause-len g c =
    let other : c.stat.result ≡ reply.Found → ⊥ = λ found. stat_finds c.args.held.now.memory (sym c.stat.ensures.ok ∙ found) in
    rw (c.in-Stat.is) (no_pairs c.stat.result c.args.out.now other c.requires.room)

pub returns-in-Stat-clause-same : goal.returns-in-Stat-clause-same
returns-in-Stat-clause-same g c = (through_refl _ _ _, reads_still _ _)

pub returns-in-Stat-clause-cause : goal.returns-in-Stat-clause-cause
returns-in-Stat-clause-cause g c =
    let calm = ap is_fault c.stat.ensures.ok in (
      fails_none (g.D.Disk.faults c.args.disk.now) c.stat.result calm,
      tells_calm (g.D.Disk.view c.args.disk.now) (held_of c.args.held.now c.args.cache.now) _ c.stat.result calm (λ short. absurd (stat_short c.args.held.now.memory (sym c.stat.ensures.ok ∙ short))),
    )

pub returns-in-OpenCursor-clause-ok : goal.returns-in-OpenCursor-clause-ok
returns-in-OpenCursor-clause-ok g c = λ x rows at.
    rw (c.in-OpenCursor.is, c.requires.room, c.reply_to_open_cursor.ensures.state)
    (opened_applied (g.D.Disk.view c.args.disk.now) (held_of c.args.held.now c.args.cache.now) x rows (c.requires.kept c.args.cache.now) at c.in-OpenCursor.version c.in-OpenCursor.lo.now c.in-OpenCursor.hi.now _
    c.reply_to_open_cursor.result (c.reply_to_open_cursor.ensures.found at.stands.stands.content c.args.cache.now) refl)

pub returns-in-OpenCursor-clause-found : goal.returns-in-OpenCursor-clause-found
returns-in-OpenCursor-clause-found g c = λ old f exposed calm. rw (c.in-OpenCursor.is, c.requires.room) (c.reply_to_open_cursor.ensures.found f c.args.cache.now)

pub returns-in-OpenCursor-clause-len : goal.returns-in-OpenCursor-clause-len
returns-in-OpenCursor-clause-len g c = rw (c.in-OpenCursor.is) (no_pairs c.reply_to_open_cursor.result c.args.out.now c.reply_to_open_cursor.ensures.cause.1 c.requires.room)

pub returns-in-OpenCursor-clause-same : goal.returns-in-OpenCursor-clause-same
returns-in-OpenCursor-clause-same g c = (through_refl _ _ _, reads_still _ _)

pub returns-in-OpenCursor-clause-cause : goal.returns-in-OpenCursor-clause-cause
returns-in-OpenCursor-clause-cause g c = rw (c.in-OpenCursor.is) (
  fails_none (g.D.Disk.faults c.args.disk.now) c.reply_to_open_cursor.result c.reply_to_open_cursor.ensures.cause.0,
  tells_calm (g.D.Disk.view c.args.disk.now) (held_of c.args.held.now c.args.cache.now) _ c.reply_to_open_cursor.result c.reply_to_open_cursor.ensures.cause.0 (λ short. (refl, refl)),
)

pub reply_to_next_pairs-requires-clause-fits : goal.reply_to_next_pairs-requires-clause-fits
reply_to_next_pairs-requires-clause-fits g c =
    next_fits c.in-NextPairs.cursor c.in-NextPairs.limit (ap (λ (asked : Command). has_lawful_sizes (request_of asked)) (sym c.in-NextPairs.is) ∙ c.requires.fits)

pub returns-in-NextPairs-clause-ok : goal.returns-in-NextPairs-clause-ok
returns-in-NextPairs-clause-ok g c = rw (c.in-NextPairs.is) c.reply_to_next_pairs.ensures.ok

pub returns-in-NextPairs-clause-found : goal.returns-in-NextPairs-clause-found
returns-in-NextPairs-clause-found g c = λ old f exposed calm. rw (c.in-NextPairs.is) (c.reply_to_next_pairs.ensures.found f exposed calm)

pub returns-in-NextPairs-clause-len : goal.returns-in-NextPairs-clause-len
returns-in-NextPairs-clause-len g c = rw (c.in-NextPairs.is) (c.reply_to_next_pairs.ensures.len.2)

pub returns-in-NextPairs-clause-same : goal.returns-in-NextPairs-clause-same
returns-in-NextPairs-clause-same g c = (
  looks_wider _ _ _ _ _ _ (c.requires.kept c.args.cache.now).kept.named c.reply_to_next_pairs.ensures.same,
  rw (c.in-NextPairs.is) c.reply_to_next_pairs.ensures.reads,
)

pub returns-in-NextPairs-clause-cause : goal.returns-in-NextPairs-clause-cause
returns-in-NextPairs-clause-cause g c =
    let s = held_of c.args.held.now c.args.cache.now in
    rw (c.in-NextPairs.is) (
      c.reply_to_next_pairs.ensures.cause.0,
      tells_look (g.D.Disk.view c.args.disk.now) s (NextPairs c.in-NextPairs.cursor c.in-NextPairs.limit) c.reply_to_next_pairs.result (reply.Refused why.UnknownCursor) refl refl refl c.reply_to_next_pairs.ensures.len.1
          (λ q refused. c.reply_to_next_pairs.ensures.cause.1 (cursor_refused s.memory c.in-NextPairs.cursor q refused)) (λ b bad. (c.reply_to_next_pairs.ensures.damaged b bad).1),
    )

pub returns-in-CloseCursor-clause-ok : goal.returns-in-CloseCursor-clause-ok
returns-in-CloseCursor-clause-ok g c = λ x rows at.
    rw (c.in-CloseCursor.is, c.requires.room, c.reply_to_close_cursor.ensures.state)
    (closing_applied (g.D.Disk.view c.args.disk.now) (held_of c.args.held.now c.args.cache.now) x rows (c.requires.kept c.args.cache.now) at c.in-CloseCursor.cursor _ c.reply_to_close_cursor.result
    (c.reply_to_close_cursor.ensures.found at.stands.stands.content c.args.cache.now) refl)

pub returns-in-CloseCursor-clause-found : goal.returns-in-CloseCursor-clause-found
returns-in-CloseCursor-clause-found g c = λ old f exposed calm. rw (c.in-CloseCursor.is, c.requires.room) (c.reply_to_close_cursor.ensures.found f c.args.cache.now)

pub returns-in-CloseCursor-clause-len : goal.returns-in-CloseCursor-clause-len
returns-in-CloseCursor-clause-len g c = rw (c.in-CloseCursor.is) (no_pairs c.reply_to_close_cursor.result c.args.out.now c.reply_to_close_cursor.ensures.cause.1 c.requires.room)

pub returns-in-CloseCursor-clause-same : goal.returns-in-CloseCursor-clause-same
returns-in-CloseCursor-clause-same g c = (through_refl _ _ _, reads_still _ _)

pub returns-in-CloseCursor-clause-cause : goal.returns-in-CloseCursor-clause-cause
returns-in-CloseCursor-clause-cause g c = rw (c.in-CloseCursor.is) (
  fails_none (g.D.Disk.faults c.args.disk.now) c.reply_to_close_cursor.result c.reply_to_close_cursor.ensures.cause.0,
  tells_calm (g.D.Disk.view c.args.disk.now) (held_of c.args.held.now c.args.cache.now) _ c.reply_to_close_cursor.result c.reply_to_close_cursor.ensures.cause.0 (λ short. absurd (c.reply_to_close_cursor.ensures.cause.2 short)),
)

pub returns-in_default-clause-ok : goal.returns-in_default-clause-ok
returns-in_default-clause-ok g c = absurd (changes_left c.args.command.now c.requires.none c.in_default.not-Get c.in_default.not-Scan c.in_default.not-Info c.in_default.not-Stat c.in_default.not-OpenCursor c.in_default.not-NextPairs c.in_default.not-CloseCursor)

pub returns-in_default-clause-found : goal.returns-in_default-clause-found
returns-in_default-clause-found g c = absurd (changes_left c.args.command.now c.requires.none c.in_default.not-Get c.in_default.not-Scan c.in_default.not-Info c.in_default.not-Stat c.in_default.not-OpenCursor c.in_default.not-NextPairs c.in_default.not-CloseCursor)

pub returns-in_default-clause-state : goal.returns-in_default-clause-state
returns-in_default-clause-state g c = absurd (changes_left c.args.command.now c.requires.none c.in_default.not-Get c.in_default.not-Scan c.in_default.not-Info c.in_default.not-Stat c.in_default.not-OpenCursor c.in_default.not-NextPairs c.in_default.not-CloseCursor)

pub returns-in_default-clause-len : goal.returns-in_default-clause-len
returns-in_default-clause-len g c = absurd (changes_left c.args.command.now c.requires.none c.in_default.not-Get c.in_default.not-Scan c.in_default.not-Info c.in_default.not-Stat c.in_default.not-OpenCursor c.in_default.not-NextPairs c.in_default.not-CloseCursor)

pub returns-in_default-clause-same : goal.returns-in_default-clause-same
returns-in_default-clause-same g c = absurd (changes_left c.args.command.now c.requires.none c.in_default.not-Get c.in_default.not-Scan c.in_default.not-Info c.in_default.not-Stat c.in_default.not-OpenCursor c.in_default.not-NextPairs c.in_default.not-CloseCursor)

pub returns-in_default-clause-cause : goal.returns-in_default-clause-cause
returns-in_default-clause-cause g c = absurd (changes_left c.args.command.now c.requires.none c.in_default.not-Get c.in_default.not-Scan c.in_default.not-Info c.in_default.not-Stat c.in_default.not-OpenCursor c.in_default.not-NextPairs c.in_default.not-CloseCursor)
