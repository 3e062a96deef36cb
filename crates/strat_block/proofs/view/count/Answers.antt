use Rattle.std.proofs.Common.{◌≡◌, ℕ, IsSome, Option, Some, refl, sym, ◌∙◌, subst, arith}
use Rattle.strat_base.specs.Numbers.{number}
use Rattle.strat_block.proofs.BlockFacts.{held_stands, number_there}
use Rattle.strat_block.proofs.view.count.Goals as goal

pub unwrap-requires : goal.unwrap-requires
unwrap-requires c =
    let s = held_stands c.args.bytes.now c.requires in
    let e : c.get_u16.result ≡ Some (number 2 c.args.bytes.now) = c.get_u16.ensures ∙ number_there c.args.bytes.now 0 (let l = s.len in omega arith) in
    subst (λ (o : Option ℕ). IsSome o) (sym e) refl

pub returns : goal.returns
returns c =
    let s = held_stands c.args.bytes.now c.requires in
    let e : c.get_u16.result ≡ Some (number 2 c.args.bytes.now) = c.get_u16.ensures ∙ number_there c.args.bytes.now 0 (let l = s.len in omega arith) in
    let u = c.unwrap.ensures in
    let n = s.count in
    record { ok = let h : c.unwrap.result ≡ number 2 c.args.bytes.now = cc in h ∙ n }
