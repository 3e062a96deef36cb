use Rattle.std.specs.Option.{IfSome, option_map}
use Rattle.std.proofs.Common.{List, ◌∷◌, IsTrue, refl, sym, ap, ◌∙◌, subst}
use Rattle.strat_base.specs.Entries.{Entry}
use Rattle.strat_base.specs.Tree.{Parents}
use Rattle.strat_level.specs.Memtable.{entries_held, ListStands}
use Rattle.strat_model.specs.Answer.{as_told}
use Rattle.strat_model.specs.Request.{Scan}
use Rattle.strat_model.specs.declared.replies.Reply.{Reply}
use Rattle.def_meaning.specs.TableOver.{are_known}
use Rattle.strat_store.specs.Applying.{is_fault, IsLookedUp}
use Rattle.strat_store.specs.Ranging.{HasPairs}
use Rattle.strat_memory.specs.Memory.{lists_in_memory}
use Rattle.strat_memory.specs.RecoveredFields.{held_of}
use Rattle.strat_publish.proofs.WholeLemmas.{whole_read}
use Rattle.strat_store.proofs.RangingLemmas.{few_arrays, finds_range, range_told, damaged_range, none_in_range, unknown_range, known_range, pairs_scanned}
use Rattle.strat_store.proofs.scan.scan_range.Goals as goal
use Rattle.strat_cursor.proofs.ThroughLemmas.{names_more, through_more, through_refl}
use Rattle.strat_cursor.proofs.HoldingLemmas.{asked_in_all}
use Rattle.strat_cursor.specs.Looking.{ReadsArrays, arrays_asked, arrays_there}

pub returns-then-not-has-clause-ok : goal.returns-then-not-has-clause-ok
returns-then-not-has-clause-ok g c = λ x w.
    unknown_range _ _ (held_of c.args.held.now c.args.cache.now) x c.args.cache.now c.args.version c.args.lo.now c.args.hi.now c.args.limit c.args.out.now (c.requires.kept c.args.cache.now) w
    (through_refl _ _ _) (g.met.D.Disk.leaves_content c.args.disk.now) (sym c.has.ensures.ok ∙ c.if-not-has.true) c.requires.room

pub scan-found-requires-clause-kept : goal.scan-found-requires-clause-kept
scan-found-requires-clause-kept g c =
    let whole = c.requires.kept c.args.cache.now in
    record {
      zero = c.lists.ensures.kept.0;
      known = subst (λ (ps : Parents). IsTrue (are_known ps (entries_held c.lists.result.2.now c.lists.result.0.now))) (sym c.lists.ensures.found.0)
          (subst (λ (es : List Entry). IsTrue (are_known c.args.held.now.memory.parents es)) (sym c.lists.ensures.ok.0) c.lists.ensures.fits);
      sealed = subst (λ (ps : Parents). IfSome (option_map (λ z. z.now) c.lists.result.1) (λ z. ListStands c.lists.result.2.now z × IsTrue (are_known ps (entries_held c.lists.result.2.now z)))) (sym c.lists.ensures.found.0)
          c.lists.ensures.kept.1;
      arrays = (whole_read (held_of c.args.held.now c.args.cache.now) whole).within;
      few = λ v. few_arrays c.lists.result.3.now.parents c.args.held.now.published.levels v whole.placed.count;
    }

pub returns-clause-ok : goal.returns-clause-ok
returns-clause-ok g c = λ x w.
    subst (λ (told : Reply). IsLookedUp (g.D.Disk.view c.scan-found.new.disk) (held_of c.args.held.now c.scan-found.new.cache) x (Scan c.args.version c.args.lo.now c.args.hi.now c.args.limit) (as_told told c.scan-found.new.out))
    (sym c.reply_of_scan.ensures.ok)
    (known_range _ _ (held_of c.args.held.now c.args.cache.now) x c.scan-found.new.cache c.args.version c.args.lo.now c.args.hi.now c.args.limit c.scan-found.new.out (c.requires.kept c.args.cache.now) w
    (through_more _ _ _ (arrays_there c.args.held.now.published.levels) _ _ c.scan-found.ensures.same (asked_in_all c.lists.result.3.now.parents c.args.held.now.published.levels c.args.version)) (g.met.D.Disk.leaves_content c.scan-found.new.disk) c.scan-found.result (sym c.has.ensures.ok ∙ c.if-not-has.false)
    (finds_range _ _ c.args.held.now.memory.parents (lists_in_memory c.args.held.now.memory) c.args.held.now.published.levels c.args.version c.args.lo.now c.args.hi.now c.args.limit c.args.cache.now c.scan-found.new.out c.scan-found.result
    c.lists.ensures.found.0 (λ i. c.lists.ensures.ok.0 i ∷ c.lists.ensures.ok.1 i) (λ ps. refl) c.scan-found.ensures.ok)
    c.scan-found.ensures.err
    (λ block torn. names_more _ _ (arrays_there c.args.held.now.published.levels) block (asked_in_all c.lists.result.3.now.parents c.args.held.now.published.levels c.args.version) (c.scan-found.ensures.damaged block torn)))

pub returns-clause-found : goal.returns-clause-found
returns-clause-found g c = λ f m exposed ordered cached none is asked.
    let may = whole_read (held_of c.args.held.now c.args.cache.now) (c.requires.kept c.args.cache.now) in
    ap (λ (told : Reply). as_told told c.scan-found.new.out) c.reply_of_scan.ensures.ok
    ∙ range_told _ c.args.held.now.memory.parents (lists_in_memory c.args.held.now.memory) c.args.held.now.published.levels c.args.version c.args.lo.now c.args.hi.now c.args.limit c.args.cache.now c.scan-found.new.out
    c.scan-found.result
    (finds_range _ _ c.args.held.now.memory.parents (lists_in_memory c.args.held.now.memory) c.args.held.now.published.levels c.args.version c.args.lo.now c.args.hi.now c.args.limit c.args.cache.now c.scan-found.new.out c.scan-found.result
    c.lists.ensures.found.0 (λ i. c.lists.ensures.ok.0 i ∷ c.lists.ensures.ok.1 i) (λ ps. refl) c.scan-found.ensures.ok)
    (ap is_fault (sym c.reply_of_scan.ensures.ok) ∙ none) f _ m exposed ordered may.own cached asked

pub returns-clause-len : goal.returns-clause-len
returns-clause-len g c =
    subst (λ (told : Reply). HasPairs c.args.limit told c.scan-found.new.out) (sym c.reply_of_scan.ensures.ok)
    (pairs_scanned c.scan-found.result c.scan-found.new.out c.args.limit c.scan-found.ensures.len c.scan-found.ensures.err)

pub returns-clause-damaged : goal.returns-clause-damaged
returns-clause-damaged g c = λ b told. (
  damaged_range _ c.args.held.now.memory c.args.held.now.published.levels c.scan-found.result b
      (λ block torn. names_more _ _ (arrays_there c.args.held.now.published.levels) block (asked_in_all c.lists.result.3.now.parents c.args.held.now.published.levels c.args.version) (c.scan-found.ensures.damaged block torn))
      (sym c.reply_of_scan.ensures.ok ∙ told),
  none_in_range _ _ c.scan-found.result b c.scan-found.ensures.damaged (sym c.reply_of_scan.ensures.ok ∙ told),
)

pub returns-clause-same : goal.returns-clause-same
returns-clause-same g c =
    through_more _ _ _ (arrays_there c.args.held.now.published.levels) _ _ c.scan-found.ensures.same (asked_in_all c.lists.result.3.now.parents c.args.held.now.published.levels c.args.version)

pub returns-clause-reads : goal.returns-clause-reads
returns-clause-reads g c =
    subst (λ (parents : Parents). ReadsArrays (arrays_asked parents c.args.held.now.published.levels c.args.version) (g.D.Disk.reads c.args.disk.now) (g.D.Disk.reads c.scan-found.new.disk)) c.lists.ensures.found.0
    c.scan-found.ensures.reads
