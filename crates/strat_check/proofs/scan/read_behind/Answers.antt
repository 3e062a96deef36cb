use Rattle.std.proofs.Common.{◌<◌, ◌≡◌, length, sym, ap, ◌∙◌, arith}
use Rattle.strat_promote.specs.LeadRuns.{key_alone, entries_at_hand}
use Rattle.strat_promote.proofs.LeadLemmas.{first_held, last_held, held_count, held_on}
use Rattle.strat_check.proofs.scan.read_behind.Goals as goal

pub are_within-is_within-requires : goal.are_within-is_within-requires
are_within-is_within-requires g c = held_count c.fetch.new.self c.count-len.result c.in_ok-fetch.ensures.found c.count-len.ensures.ok

pub returns-clause-ok : goal.returns-clause-ok
returns-clause-ok g c = λ f exposed.
    let count : c.count-len.result ≡ length (entries_at_hand c.fetch.new.self) = held_count c.fetch.new.self c.count-len.result c.in_ok-fetch.ensures.found c.count-len.ensures.ok in
    let some : 0 < c.count-len.result = c.count-len.ensures.fits.0 in
    record {
      entries = entries_at_hand c.fetch.new.self;
      here = held_on c.fetch.new.self _ (g.D.Disk.view c.args.disk.now) c.args.block c.in_ok-fetch.ensures.found c.in_ok-fetch.ensures.ok f exposed;
      after = c.is_before-ascends.ensures.ok ∙ sym (first_held c.args.last.now c.fetch.new.self _ (omega (arith, count, some)) c.entry.ensures.ok);
      counted = count;
      within = c.are_within-is_within.ensures;
      last = c.set.ensures.ok ∙ ap key_alone (last_held c.fetch.new.self c.count-len.result _ count (λ none. omega (arith, none, some)) c.entry-2.ensures.ok);
    }
