use Rattle.std.proofs.Common.{ap, ◌∙◌, drop, List}
use Rattle.def_bytes.specs.Manifest.{Manifest}
use Rattle.def_bytes.specs.SuperBlock.{Super}
use Rattle.strat_memory.specs.Filters.{LevelFilters, no_filters}
use Rattle.strat_memory.specs.Held.{head_held}
use Rattle.strat_store_pins.proofs.PublicationLemmas.{left_behind, sealed_all}
use Rattle.strat_store_pins.proofs.settling.what_a_promotion_made_is_published.Goals as goal

pub returns-clause-ok : goal.returns-clause-ok
returns-clause-ok c = λ old new has.
    let sb = has.after.are.sb_is in
    let m = has.after.are.manifest_is in
    (has.slot, ap (λ (x : Super). x.generation) sb, ap (λ (x : Super). x.region) sb, ap (λ (x : Super). x.mem) sb, ap (λ (x : Super). x.changes_max) sb, ap (λ (x : Super). x.versions_max) sb, ap (λ (x : Manifest). x.changes) m, ap (λ (x : Manifest). x.updates) m, ap (λ (x : Manifest). x.parents) m)

pub returns-clause-same : goal.returns-clause-same
returns-clause-same c = λ old new has.
    let m = has.after.are.manifest_is in
    (ap (λ (x : Super). x.format) has.after.are.sb_is, ap (λ (x : Manifest). x.compacted) m, ap (λ (x : Manifest). x.marks) m)

pub returns-clause-found : goal.returns-clause-found
returns-clause-found c = λ s whole few. sealed_all (head_held s) s.memory whole.memory few s.memory.sealed whole.memory.counted

pub returns-clause-room : goal.returns-clause-room
returns-clause-room c = λ old new has. (has.full, has.closed)

pub returns-clause-fits : goal.returns-clause-fits
returns-clause-fits c = λ target sb next_sb m next memory a are among. are.numbered a among

pub returns-clause-kept : goal.returns-clause-kept
returns-clause-kept c = λ old new has. has.after.cursors_are

pub returns-clause-filter : goal.returns-clause-filter
returns-clause-filter c = λ old new has.
    ap (λ (fs : List LevelFilters). drop has.after.target fs) has.after.filters_are ∙ left_behind no_filters has.after.made has.after.target old.filters has.after.low
