use Rattle.def_split.specs.Groups.{grouped_entries}
use Rattle.def_promote.specs.Merging.{runs_taken}
use Rattle.def_promote.proofs.MergingLemmas.{merged, runs_union}
use Rattle.def_promote.proofs.laws.merged_groups_are_promoted.Goals as goal

pub returns : goal.returns
returns c = λ s j taken kept groups own seen plan takes merges horizon split.
    let union = merged (runs_taken s taken) groups merges in
    record {
      takes = takes;
      union = runs_union s taken (grouped_entries groups) union.0;
      grouped = union.1;
      horizon = horizon;
      split = split;
    }
