use Rattle.std.proofs.Common.{◌≡◌, ◌∙◌, ℕ, List, [], ap, arith, subst, sym, take}
use Rattle.std.specs.Vec.{with_items}
use Rattle.std.proofs.lemmas.List.{with_items_is}
use Rattle.def_crash.specs.Faults.{ReadsAtMost}
use Rattle.strat_cursor.specs.Emitting.{AreUpTo}
use Rattle.strat_cursor.specs.Looking.{blocks_of_arrays}
use Rattle.strat_cursor.specs.Views.{arrays_read}
use Rattle.strat_cursor.specs.declared.scan_buffers.SourcePosition.{SourcePosition}
use Rattle.strat_cursor.proofs.ReadLemmas.{few_blocks, reads_of_blocks}
use Rattle.strat_cursor.proofs.WalkLemmas.{all_left}
use Rattle.strat_cursor.proofs.walk.Walk.begin.Goals as goal

pub returns-in_err-begin_contest-clause-reads : goal.returns-in_err-begin_contest-clause-reads
returns-in_err-begin_contest-clause-reads g c =
    let arrays = arrays_read c.args.view.now c.args.version in
    let most = reads_of_blocks (take c.pick-sources.result.count c.pick-sources.result.places) ∙ ap blocks_of_arrays c.pick-sources.ensures.ok.arrays in
    subst (λ (n : ℕ). ReadsAtMost n (g.D.Disk.reads c.args.disk.now) (g.D.Disk.reads c.begin_contest.new.disk)) most (c.begin_contest.ensures.reads (blocks_of_arrays arrays) (few_blocks arrays))

pub returns-clause-reads : goal.returns-clause-reads
returns-clause-reads g c =
    let arrays = arrays_read c.args.view.now c.args.version in
    let most = reads_of_blocks (take c.pick-sources.result.count c.pick-sources.result.places) ∙ ap blocks_of_arrays c.pick-sources.ensures.ok.arrays in
    subst (λ (n : ℕ). ReadsAtMost n (g.D.Disk.reads c.args.disk.now) (g.D.Disk.reads c.begin_contest.new.disk)) most (c.begin_contest.ensures.reads (blocks_of_arrays arrays) (few_blocks arrays))

pub returns-clause-ok : goal.returns-clause-ok
returns-clause-ok g c = λ f next m exposed may seen.
    let view = c.args.view.now in
    let sources = take c.pick-sources.result.count c.pick-sources.result.places in
    let len = c.begin_contest.ensures.len.0 in
    let positions_is : (with_items c.truncate.new.self c.begin_contest.new.positions).items ≡ c.begin_contest.new.positions =
    with_items_is c.truncate.new.self c.begin_contest.new.positions (len ∙ c.deref_mut.ensures.len) in
    record {
      map = m;
      own = may.ids;
      seen = seen;
      up = subst (λ (ps : List SourcePosition). AreUpTo f c.begin_contest.new.cache view.pool.now view.tree.now.parents c.args.version [] c.clear.new.self.items sources ps) (sym positions_is)
          (subst (λ (l : List ℕ). AreUpTo f c.begin_contest.new.cache view.pool.now view.tree.now.parents c.args.version [] l sources c.begin_contest.new.positions) (sym c.clear.ensures.items) (c.in_ok-begin_contest.ensures.ok f next exposed may));
      left_is = all_left m c.clear.new.self.items c.clear.ensures.items;
    }

pub returns-clause-room : goal.returns-clause-room
returns-clause-room g c =
    let arrays = arrays_read c.args.view.now c.args.version in
    let most = reads_of_blocks (take c.pick-sources.result.count c.pick-sources.result.places) ∙ ap blocks_of_arrays c.pick-sources.ensures.ok.arrays in
    let len = c.begin_contest.ensures.len.0 in
    let positions_is : (with_items c.truncate.new.self c.begin_contest.new.positions).items ≡ c.begin_contest.new.positions =
    with_items_is c.truncate.new.self c.begin_contest.new.positions (len ∙ c.deref_mut.ensures.len) in
    rw positions_is (omega (arith, c.in_ok-begin_contest.ensures.room (blocks_of_arrays arrays) (few_blocks arrays), most))
