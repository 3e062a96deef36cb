use Rattle.std.proofs.Common.{◌≡◌, ◌⊎◌, ℕ, Option, sym, ap, subst, ◌∙◌, refl, map, inl, inr}
use Rattle.std.specs.Prelude.{string_bytes, Some}
use Rattle.castle.specs.Arguments.{Subcommand, subcommand_seen}
use Rattle.castle.specs.Outcomes.{IsEarly, Runs, LeavesAlone}
use Rattle.castle.specs.declared.arguments.Subcommand.{Subcommand as Borrowed}
use Rattle.strat_report.specs.Reporting.{levels_text}
use Rattle.strat_loop.specs.World.{World, world}
use Rattle.strat_follow.specs.Follows.{follows}
use Rattle.castle.proofs.CheckLemmas.{check_cause}
use Rattle.castle.proofs.CompleteLemmas.{completes, completes_sound, gave_up_by, of_lead, of_run, of_spoken}
use Rattle.castle.proofs.FormattedLemmas.{formatted_ends, formatting_gave_up}
use Rattle.castle.proofs.SizeLemmas.{limits_of}
use Rattle.castle.proofs.SummaryLemmas.{none_reported, report_cause, silent_by, workload_completes}
use Rattle.castle.proofs.program.run.Given.{Over}
use Rattle.castle.proofs.program.run.Goals as goal

-- what a source, a sink and a disk show
abbrev shown : (g : Over) → g.row.S.Denot → g.row.K.Denot → g.row.D.Denot → World
shown g source sink disk = world (g.S.Source.left source) (g.S.Source.faults source) (g.K.Sink.held sink) (g.K.Sink.faults sink) (g.D.Disk.view disk) (g.D.Disk.faults disk)

pub make_store-requires : goal.make_store-requires
make_store-requires g c = record {
  fits = limits_of (map string_bytes c.args.words.now) c.in-Some-Format.field-0-0.now c.in-Some-Format.mem c.in-Some-Format.changes_max c.in-Some-Format.versions_max
      (c.in-Some-Format.ensures ∙ ap (λ (j : Borrowed). Some (subcommand_seen j)) c.in-Some-Format.field-0-is);
}

pub returns-in-Some-Serve-clause-ok : goal.returns-in-Some-Serve-clause-ok
returns-in-Some-Serve-clause-ok g c =
    let before = shown g c.args.source.now c.args.sink.now c.args.disk.now in
    let now = shown g c.serve.new.source c.serve.new.sink c.serve.new.disk in
    let named = c.in-Some-Serve.ensures ∙ ap (λ (j : Borrowed). Some (subcommand_seen j)) c.in-Some-Serve.field-0-is in
    subst (λ (s : Option Subcommand). Runs s 1099511627776 c.status-in-Some-Serve.result before now) (sym named) (
      c.serve.result,
      c.status-in-Some-Serve.ensures,
      record {
        outcome = c.serve.ensures.ok;
        refuses = c.serve.ensures.found;
        cause = c.serve.ensures.cause;
        complete = λ calm f exposed. completes 1099511627776 c.serve.result before now f (of_run 1099511627776 c.serve.result before now c.serve.ensures.ok) c.serve.ensures.found c.serve.ensures.cause calm.source calm.sink calm.disk exposed;
        sound = λ calm f t exposed shows. completes_sound 1099511627776 c.serve.result before now f t (of_run 1099511627776 c.serve.result before now c.serve.ensures.ok) c.serve.ensures.found c.serve.ensures.cause calm.source calm.sink calm.disk exposed shows;
      },
    )

pub returns-in-Some-Serve-clause-same : goal.returns-in-Some-Serve-clause-same
returns-in-Some-Serve-clause-same g c =
    let view = g.D.Disk.view c.args.disk.now in
    let named = c.in-Some-Serve.ensures ∙ ap (λ (j : Borrowed). Some (subcommand_seen j)) c.in-Some-Serve.field-0-is in
    subst (λ (s : Option Subcommand). LeavesAlone s view c.status-in-Some-Serve.result (c.serve.new.source ≡ c.args.source.now) (c.serve.new.sink ≡ c.args.sink.now) (c.serve.new.disk ≡ c.args.disk.now)) (sym named)
    (λ is. c.serve.ensures.same (gave_up_by c.serve.result view (subst (λ (n : ℕ). IsEarly view n) c.status-in-Some-Serve.ensures is)))

pub returns-in-Some-Format-clause-ok : goal.returns-in-Some-Format-clause-ok
returns-in-Some-Format-clause-ok g c =
    let before = shown g c.args.source.now c.args.sink.now c.args.disk.now in
    let now = shown g c.args.source.now c.make_store.new.sink c.make_store.new.disk in
    let named = c.in-Some-Format.ensures ∙ ap (λ (j : Borrowed). Some (subcommand_seen j)) c.in-Some-Format.field-0-is in
    let cause = c.make_store.ensures.cause before.left before.source_faults in
    subst (λ (s : Option Subcommand). Runs s 1099511627776 c.status-in-Some-Format.result before now) (sym named) (
      c.make_store.result,
      c.status-in-Some-Format.ensures,
      record {
        sends = c.make_store.ensures.ok;
        left = c.make_store.ensures.found;
        moments = c.make_store.ensures.images;
        kept = c.make_store.ensures.kept;
        cause = cause;
        calm = c.make_store.ensures.faults;
        complete = λ sink disk. formatted_ends c.make_store.result _ before now c.make_store.ensures.ok cause sink disk;
      },
    )

pub returns-in-Some-Format-clause-same : goal.returns-in-Some-Format-clause-same
returns-in-Some-Format-clause-same g c =
    let named = c.in-Some-Format.ensures ∙ ap (λ (j : Borrowed). Some (subcommand_seen j)) c.in-Some-Format.field-0-is in
    let early : (c.status-in-Some-Format.result ≡ 2) ⊎ (c.status-in-Some-Format.result ≡ 8) ⊎ (c.status-in-Some-Format.result ≡ 9) → (c.make_store.new.sink ≡ c.args.sink.now) × (c.make_store.new.disk ≡ c.args.disk.now) =
    λ is. c.make_store.ensures.same (formatting_gave_up c.make_store.result _ _ _ c.make_store.ensures.ok (subst (λ (n : ℕ). (n ≡ 2) ⊎ (n ≡ 8) ⊎ (n ≡ 9)) c.status-in-Some-Format.ensures is)) in
    subst (λ (s : Option Subcommand). LeavesAlone s (g.D.Disk.view c.args.disk.now) c.status-in-Some-Format.result (c.args.source.now ≡ c.args.source.now) (c.make_store.new.sink ≡ c.args.sink.now) (c.make_store.new.disk ≡ c.args.disk.now)) (sym named)
    (refl, λ is. (early is).0, λ is. (early (inr (inl is))).1)

pub returns-in-Some-Levels-clause-ok : goal.returns-in-Some-Levels-clause-ok
returns-in-Some-Levels-clause-ok g c =
    let before = shown g c.args.source.now c.args.sink.now c.args.disk.now in
    let now = shown g c.args.source.now c.write_levels.new.sink c.write_levels.new.disk in
    let named = c.in-Some-Levels.ensures ∙ ap (λ (j : Borrowed). Some (subcommand_seen j)) c.in-Some-Levels.field-0-is in
    let wrote = c.write_levels.ensures in
    subst (λ (s : Option Subcommand). Runs s 1099511627776 c.status-in-Some-Levels.result before now) (sym named) (
      c.write_levels.result,
      c.status-in-Some-Levels.ensures,
      record {
        writes = wrote.ok;
        same = wrote.same;
        none = none_reported before.disk c.write_levels.result before.held now.held wrote.ok;
        cause = report_cause levels_text before.disk before.disk now.disk c.write_levels.result before.held now.held before.disk_faults now.disk_faults before.disk_faults
            before.sink_faults now.sink_faults before.left before.source_faults wrote.ok wrote.cause refl;
        complete = λ calm. wrote.found calm.disk calm.sink;
      },
    )

pub returns-in-Some-Levels-clause-same : goal.returns-in-Some-Levels-clause-same
returns-in-Some-Levels-clause-same g c =
    let named = c.in-Some-Levels.ensures ∙ ap (λ (j : Borrowed). Some (subcommand_seen j)) c.in-Some-Levels.field-0-is in
    subst (λ (s : Option Subcommand). LeavesAlone s (g.D.Disk.view c.args.disk.now) c.status-in-Some-Levels.result (c.args.source.now ≡ c.args.source.now) (c.write_levels.new.sink ≡ c.args.sink.now) (c.write_levels.new.disk ≡ c.args.disk.now)) (sym named)
    (refl, λ is. c.write_levels.ensures.err (silent_by c.write_levels.result (subst (λ (n : ℕ). (n ≡ 2) ⊎ (n ≡ 5) ⊎ (n ≡ 8)) c.status-in-Some-Levels.ensures is)))

pub returns-in-Some-Check-clause-ok : goal.returns-in-Some-Check-clause-ok
returns-in-Some-Check-clause-ok g c =
    let before = shown g c.args.source.now c.args.sink.now c.args.disk.now in
    let now = shown g c.args.source.now c.write_check.new.sink c.write_check.new.disk in
    let named = c.in-Some-Check.ensures ∙ ap (λ (j : Borrowed). Some (subcommand_seen j)) c.in-Some-Check.field-0-is in
    let wrote = c.write_check.ensures in
    subst (λ (s : Option Subcommand). Runs s 1099511627776 c.status-in-Some-Check.result before now) (sym named) (
      c.write_check.result,
      c.status-in-Some-Check.ensures,
      record {
        ends = wrote.end;
        writes = wrote.ok;
        same = wrote.same;
        cause = check_cause before.disk now.disk c.write_check.result before.held now.held before.disk_faults now.disk_faults
            before.sink_faults now.sink_faults before.left before.source_faults wrote.end wrote.cause;
        complete = λ calm. wrote.found calm.disk calm.sink;
      },
    )

pub returns-in-Some-Check-clause-same : goal.returns-in-Some-Check-clause-same
returns-in-Some-Check-clause-same g c =
    let named = c.in-Some-Check.ensures ∙ ap (λ (j : Borrowed). Some (subcommand_seen j)) c.in-Some-Check.field-0-is in
    subst (λ (s : Option Subcommand). LeavesAlone s (g.D.Disk.view c.args.disk.now) c.status-in-Some-Check.result (c.args.source.now ≡ c.args.source.now) (c.write_check.new.sink ≡ c.args.sink.now) (c.write_check.new.disk ≡ c.args.disk.now)) (sym named)
    (refl, λ is. c.write_check.ensures.err (silent_by c.write_check.result (subst (λ (n : ℕ). (n ≡ 2) ⊎ (n ≡ 5) ⊎ (n ≡ 8)) c.status-in-Some-Check.ensures is)))

pub returns-in-Some-Workload-clause-ok : goal.returns-in-Some-Workload-clause-ok
returns-in-Some-Workload-clause-ok g c =
    let before = shown g c.args.source.now c.args.sink.now c.args.disk.now in
    let now = shown g c.args.source.now c.run_workload.new.sink c.run_workload.new.disk in
    let named = c.in-Some-Workload.ensures ∙ ap (λ (j : Borrowed). Some (subcommand_seen j)) c.in-Some-Workload.field-0-is in
    let ran = c.run_workload.ensures in
    let cause = ran.cause before.left before.source_faults in
    subst (λ (s : Option Subcommand). Runs s 1099511627776 c.status-in-Some-Workload.result before now) (sym named) (
      c.run_workload.result,
      c.status-in-Some-Workload.ensures,
      record {
        ends = ran.end;
        left = ran.ok;
        sends = ran.found;
        cause = cause;
        complete = λ calm f exposed. workload_completes c.run_workload.result before now (ran.ok f exposed).ends cause calm.sink calm.disk;
      },
    )

pub returns-in-Some-Workload-clause-same : goal.returns-in-Some-Workload-clause-same
returns-in-Some-Workload-clause-same g c =
    let named = c.in-Some-Workload.ensures ∙ ap (λ (j : Borrowed). Some (subcommand_seen j)) c.in-Some-Workload.field-0-is in
    subst (λ (s : Option Subcommand). LeavesAlone s (g.D.Disk.view c.args.disk.now) c.status-in-Some-Workload.result (c.args.source.now ≡ c.args.source.now) (c.run_workload.new.sink ≡ c.args.sink.now) (c.run_workload.new.disk ≡ c.args.disk.now)) (sym named)
    (refl, λ is. c.run_workload.ensures.same (silent_by c.run_workload.result (subst (λ (n : ℕ). (n ≡ 2) ⊎ (n ≡ 5) ⊎ (n ≡ 8)) c.status-in-Some-Workload.ensures is)))

pub returns-in-Some-Lead-clause-ok : goal.returns-in-Some-Lead-clause-ok
returns-in-Some-Lead-clause-ok g c =
    let before = shown g c.args.source.now c.args.sink.now c.args.disk.now in
    let now = shown g c.lead.new.source c.lead.new.sink c.lead.new.disk in
    let named = c.in-Some-Lead.ensures ∙ ap (λ (j : Borrowed). Some (subcommand_seen j)) c.in-Some-Lead.field-0-is in
    let outcome = of_lead 1099511627776 c.lead.result before now c.lead.ensures.ok in
    subst (λ (s : Option Subcommand). Runs s 1099511627776 c.status-in-Some-Lead.result before now) (sym named) (
      c.lead.result,
      c.status-in-Some-Lead.ensures,
      record {
        outcome = c.lead.ensures.ok;
        leads = c.lead.ensures.kept;
        refuses = c.lead.ensures.found;
        cause = c.lead.ensures.cause;
        complete = λ calm f exposed. completes 1099511627776 c.lead.result before now f outcome c.lead.ensures.found c.lead.ensures.cause calm.source calm.sink calm.disk exposed;
        sound = λ calm f t exposed shows. completes_sound 1099511627776 c.lead.result before now f t outcome c.lead.ensures.found c.lead.ensures.cause calm.source calm.sink calm.disk exposed shows;
      },
    )

pub returns-in-Some-Lead-clause-same : goal.returns-in-Some-Lead-clause-same
returns-in-Some-Lead-clause-same g c =
    let view = g.D.Disk.view c.args.disk.now in
    let named = c.in-Some-Lead.ensures ∙ ap (λ (j : Borrowed). Some (subcommand_seen j)) c.in-Some-Lead.field-0-is in
    subst (λ (s : Option Subcommand). LeavesAlone s view c.status-in-Some-Lead.result (c.lead.new.source ≡ c.args.source.now) (c.lead.new.sink ≡ c.args.sink.now) (c.lead.new.disk ≡ c.args.disk.now)) (sym named)
    (λ is. c.lead.ensures.same (gave_up_by c.lead.result view (subst (λ (n : ℕ). IsEarly view n) c.status-in-Some-Lead.ensures is)))

pub returns-in-Some-Follow-clause-ok : goal.returns-in-Some-Follow-clause-ok
returns-in-Some-Follow-clause-ok g c =
    let before = shown g c.args.source.now c.args.sink.now c.args.disk.now in
    let now = shown g c.follow.new.source c.follow.new.sink c.follow.new.disk in
    let named = c.in-Some-Follow.ensures ∙ ap (λ (j : Borrowed). Some (subcommand_seen j)) c.in-Some-Follow.field-0-is in
    let outcome = of_spoken follows 1099511627776 c.follow.result before now c.follow.ensures.ok in
    subst (λ (s : Option Subcommand). Runs s 1099511627776 c.status-in-Some-Follow.result before now) (sym named) (
      c.follow.result,
      c.status-in-Some-Follow.ensures,
      record {
        outcome = c.follow.ensures.ok;
        copies = c.follow.ensures.kept;
        refuses = c.follow.ensures.found;
        cause = c.follow.ensures.cause;
        complete = λ calm f exposed. completes 1099511627776 c.follow.result before now f outcome c.follow.ensures.found c.follow.ensures.cause calm.source calm.sink calm.disk exposed;
        sound = λ calm f t exposed shows. completes_sound 1099511627776 c.follow.result before now f t outcome c.follow.ensures.found c.follow.ensures.cause calm.source calm.sink calm.disk exposed shows;
      },
    )

pub returns-in-Some-Follow-clause-same : goal.returns-in-Some-Follow-clause-same
returns-in-Some-Follow-clause-same g c =
    let view = g.D.Disk.view c.args.disk.now in
    let named = c.in-Some-Follow.ensures ∙ ap (λ (j : Borrowed). Some (subcommand_seen j)) c.in-Some-Follow.field-0-is in
    subst (λ (s : Option Subcommand). LeavesAlone s view c.status-in-Some-Follow.result (c.follow.new.source ≡ c.args.source.now) (c.follow.new.sink ≡ c.args.sink.now) (c.follow.new.disk ≡ c.args.disk.now)) (sym named)
    (λ is. c.follow.ensures.same (gave_up_by c.follow.result view (subst (λ (n : ℕ). IsEarly view n) c.status-in-Some-Follow.ensures is)))

pub returns-in-Some-Export-clause-ok : goal.returns-in-Some-Export-clause-ok
returns-in-Some-Export-clause-ok g c =
    let before = shown g c.args.source.now c.args.sink.now c.args.disk.now in
    let now = shown g c.args.source.now c.export_version.new.sink c.export_version.new.disk in
    let named = c.in-Some-Export.ensures ∙ ap (λ (j : Borrowed). Some (subcommand_seen j)) c.in-Some-Export.field-0-is in
    subst (λ (s : Option Subcommand). Runs s 1099511627776 c.status-in-Some-Export.result before now) (sym named) (
      c.export_version.result,
      c.status-in-Some-Export.ensures,
      c.export_version.ensures.ok before.left before.source_faults,
    )

pub returns-in-Some-Export-clause-same : goal.returns-in-Some-Export-clause-same
returns-in-Some-Export-clause-same g c =
    let named = c.in-Some-Export.ensures ∙ ap (λ (j : Borrowed). Some (subcommand_seen j)) c.in-Some-Export.field-0-is in
    subst (λ (s : Option Subcommand). LeavesAlone s (g.D.Disk.view c.args.disk.now) c.status-in-Some-Export.result (c.args.source.now ≡ c.args.source.now) (c.export_version.new.sink ≡ c.args.sink.now) (c.export_version.new.disk ≡ c.args.disk.now)) (sym named)
    (refl, λ is. c.export_version.ensures.same (subst (λ (n : ℕ). (n ≡ 2) ⊎ (n ≡ 8) ⊎ (n ≡ 12)) c.status-in-Some-Export.ensures is))
