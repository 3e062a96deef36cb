use Rattle.std.proofs.Common.{◌≢◌, ◌<◌, ◌+◌, ◌-◌, List, ◌++◌, ◌∷◌, [], length, take, get_or, sym, ap, ◌∙◌, subst, arith, length-append}
use Rattle.strat_base.specs.declared.descriptors.Extent.{Extent}
use Rattle.def_bytes.specs.Arrays.{blocks_of}
use Rattle.strat_array.specs.Pushed.{AreMaximal}
use Rattle.strat_array.proofs.JoinLemmas.{popped, before_last, last_apart, instead, blocks_joined, maximal_joined, maximal_more}
use Rattle.strat_array.proofs.blocks.put_block.Goals as goal
use Rattle.strat_array.proofs.blocks.put_block.Goals.{then-n-gt1+in_default, else-n-gt1}

pub returns-in-Some-clause-ok : goal.returns-in-Some-clause-ok
returns-in-Some-clause-ok c = λ xs x is.
    let left = popped c.args.extents.now c.pop.new.self xs x c.pop.result c.pop.ensures.found c.pop.ensures.none is in
    let last = before_last c.args.extents.now xs x c.get.result.now c.len-n.result is c.len-n.ensures.ok c.if-n-gt1.true c.get.ensures.ok in
    ap blocks_of (c.replace_last.ensures.ok ∙ ap (λ (l : List Extent). take (length l - 1) l ++ c.in-Some.longer ∷ []) left)
    ∙ blocks_joined xs last.0 c.get.result.now last.1 c.in-Some.longer c.args.block c.in-Some.ensures.found.0 c.in-Some.ensures.found.1 c.in-Some.ensures.found.2

pub returns-in-Some-clause-kept : goal.returns-in-Some-clause-kept
returns-in-Some-clause-kept c = λ xs x is maximal.
    let left = popped c.args.extents.now c.pop.new.self xs x c.pop.result c.pop.ensures.found c.pop.ensures.none is in
    let last = before_last c.args.extents.now xs x c.get.result.now c.len-n.result is c.len-n.ensures.ok c.if-n-gt1.true c.get.ensures.ok in
    subst AreMaximal (sym (c.replace_last.ensures.ok ∙ ap (λ (l : List Extent). take (length l - 1) l ++ c.in-Some.longer ∷ []) left))
    (maximal_joined xs c.get.result.now c.in-Some.longer last.0 last.1 c.in-Some.ensures.found.0 c.in-Some.ensures.found.1 maximal)

pub returns-clause-kept : goal.returns-clause-kept
returns-clause-kept c = λ xs x is maximal.
    let one : Extent = record { start = c.args.block; len = 1 } in
    let apart : (d : Extent) → 0 < length xs → (get_or xs (length xs - 1) d).start + (get_or xs (length xs - 1) d).len ≢ c.args.block = λ d some.
    elim c.if-n-gt1.branch [
      | then-n-gt1+in_default w ↦
          let last = before_last c.args.extents.now xs x w.get.result.now c.len-n.result is c.len-n.ensures.ok w.if-n-gt1.true w.get.ensures.ok in
          last_apart xs c.args.block w.get.result.now last.1 w.in_default.ensures.none d some
      | else-n-gt1 w ↦ absurd (omega (arith, c.len-n.ensures.ok, ap length is, length-append xs (x ∷ [])))
    ] in
    subst AreMaximal (sym (instead c.args.extents.now c.replace_last-2.new.self xs x one is c.replace_last-2.ensures.ok)) (maximal_more xs c.args.block maximal apart)
