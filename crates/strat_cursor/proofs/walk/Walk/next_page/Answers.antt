use Rattle.std.proofs.Common.{◌≡◌, ◌∙◌, List, [], subst, sym, take}
use Rattle.std.specs.Vec.{with_items}
use Rattle.std.proofs.lemmas.List.{with_items_is}
use Rattle.strat_base.proofs.ResultFacts.{if_ok_then}
use Rattle.strat_cursor.specs.Emitting.{AreUpTo}
use Rattle.strat_cursor.specs.Walking.{sources_walked}
use Rattle.strat_cursor.specs.declared.scan_buffers.SourcePosition.{SourcePosition}
use Rattle.strat_cursor.proofs.WalkLemmas.{page_given}
use Rattle.strat_cursor.proofs.walk.Walk.next_page.Goals as goal

pub returns-clause-ok : goal.returns-clause-ok
returns-clause-ok g c =
    let w = c.args.self.now in
    let len = c.tell_all.ensures.room.1 in
    let positions_is : (with_items w.positions c.tell_all.new.positions).items ≡ c.tell_all.new.positions = with_items_is w.positions c.tell_all.new.positions (len ∙ c.deref_mut.ensures.len) in
    if_ok_then c.tell_all.result c.tell_all.ensures.ok (λ more answers f m exposed left.
    let up = subst (λ (ps : List SourcePosition). AreUpTo f c.args.cache.now w.view.now.pool.now w.view.now.tree.now.parents w.version [] w.last.items (sources_walked w) ps) (sym c.deref_mut.ensures.value) left.up in
    let told = answers f [] left.map exposed left.own up left.seen in
    page_given f c.tell_all.new.cache _ left.map m c.tell_all.new.out c.clear.new.self w.last.items more c.clear.ensures.ok left.own left.seen left.left_is told.0 (λ on.
    let both = told.1 on in (
      subst (λ (ps : List SourcePosition). AreUpTo f c.tell_all.new.cache w.view.now.pool.now w.view.now.tree.now.parents w.version [] c.tell_all.new.last.items (sources_walked w) ps) (sym positions_is) both.0,
      both.1,
    )))
