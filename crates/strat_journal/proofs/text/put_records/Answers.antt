use Rattle.std.proofs.Common.{ap, ◌∙◌, [], ◌∷◌, List, ℕ, length, arith}
use Rattle.strat_base.specs.Numbers.{placed}
use Rattle.strat_base.proofs.PlacedLemmas.{placed_next, length-placed}
use Rattle.strat_journal.proofs.TextLemmas.{set_placed}
use Rattle.strat_journal.proofs.text.put_records.Goals as goal

pub returns : goal.returns
returns c =
    let old = c.args.into.now in
    let records = c.args.records.now in
    let size = ap length c.put_front.ensures.ok ∙ length-placed old records 0 (omega (arith, c.requires.room)) in
    record {
      ok = set_placed c.put_front.new.into (length records) 0 (omega (arith, c.requires.room, size))
          ∙ ap (λ (x : List ℕ). placed x (length records) (0 ∷ [])) c.put_front.ensures.ok
          ∙ placed_next old records (0 ∷ []) 0 (length records) (omega arith) (omega (arith, c.requires.room));
    }
