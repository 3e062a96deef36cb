use Rattle.std.proofs.Common.{◌≡◌, ℕ, List, Some, sym, ◌∙◌, arith}
use Rattle.strat_base.specs.Numbers.{number, number_at}
use Rattle.strat_base.proofs.NumberLemmas.{number_at_some}
use Rattle.strat_block.proofs.BlockFacts.{wrong_length, no_entries, no_room, no_chain, judged}
use Rattle.strat_block.proofs.check.is_block.Goals as goal
use Rattle.strat_block.proofs.check.is_block.Goals.{then-n-eq0-via-then-n-eq0, then-n-eq0-via-else-n-eq0+then-start-gt-BLOCK}

counted : (bytes : List ℕ) (n : ℕ) → Some n ≡ number_at 2 bytes 0 → n ≡ number 2 bytes
counted bytes n is = (number_at_some 2 bytes 0 n is).1

pub returns-then-bytes-ne-BLOCK : goal.returns-then-bytes-ne-BLOCK
returns-then-bytes-ne-BLOCK c = record { ok = sym (wrong_length c.args.bytes.now c.if-bytes-ne-BLOCK.true) }

pub returns-then-n-eq0 : goal.returns-then-n-eq0
returns-then-n-eq0 c =
    let count : c.in-Some.n ≡ number 2 c.args.bytes.now = counted c.args.bytes.now c.in-Some.n c.in-Some.ensures in
    elim c.then-n-eq0.branch [
      | then-n-eq0-via-then-n-eq0 w ↦ record { ok = sym (no_entries c.args.bytes.now (omega arith)) }
      | then-n-eq0-via-else-n-eq0+then-start-gt-BLOCK w ↦ record { ok = sym (no_room c.args.bytes.now (omega arith)) }
    ]

pub returns-in-Some-last_end : goal.returns-in-Some-last_end
returns-in-Some-last_end c =
    let count : c.in-Some.n ≡ number 2 c.args.bytes.now = counted c.args.bytes.now c.in-Some.n c.in-Some.ensures in
    record {
      ok =
          c.zeros.ensures.ok
          ∙ judged c.args.bytes.now (λ i. let f = c.type_inv.bytes i in omega arith) c.in-Some.n c.in-Some-last_end.end (omega arith) count (omega arith) (omega arith)
          (sym c.in-Some-last_end.ensures.ok) c.in-Some-last_end.ensures.end;
    }

pub returns-in-None : goal.returns-in-None
returns-in-None c =
    let count : c.in-Some.n ≡ number 2 c.args.bytes.now = counted c.args.bytes.now c.in-Some.n c.in-Some.ensures in
    record { ok = sym (no_chain c.args.bytes.now c.in-Some.n count (sym c.in-None.ensures.ok)) }
