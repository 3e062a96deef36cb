-- A disk that may be a new store, or that with a full journal.
use Rattle.std.proofs.Common.{◌≡◌, ◌⊎◌, inl, inr, refl, sym, ap, ◌∙◌, subst}
use Rattle.def_crash.specs.Image.{Image}
use Rattle.def_recovery.specs.Disks.{formatted}
use Rattle.def_publish.specs.Contents.{contents_state}
use Rattle.def_publish.specs.Several.{ShowsOneOf}
use Rattle.def_publish.specs.Standing.{ShowsTable}
use Rattle.def_publish.specs.Worked.{chain_logged, new_contents, prepared_disk, resting}
use Rattle.def_publish.proofs.FreeLemmas.{one_table, shows_contents}
use Rattle.def_publish.proofs.WorkedLemmas.{logged_stands, new_stands}
use Rattle.def_meaning.specs.StateTable.{table_of}
use Rattle.strat_model.specs.Table.{Table}

abbrev new_table : Table
new_table = table_of (contents_state new_contents)

abbrev full_table : Table
full_table = table_of (contents_state chain_logged)

pub new_shows : ShowsTable formatted new_table
new_shows = shows_contents formatted new_contents new_stands.sound (new_stands.reads formatted refl)

pub full_shows : ShowsTable prepared_disk full_table
full_shows = shows_contents prepared_disk chain_logged logged_stands.sound (logged_stands.reads prepared_disk refl)

pub apart : (t u : Table) → ShowsTable formatted t → ShowsTable prepared_disk u → t ≡ u → ⊥
apart t u a b same =
    let few : t.changes ≡ 0 = ap (λ (t : Table). t.changes) (one_table formatted t new_table a new_shows) in
    let many : u.changes ≡ 4 = ap (λ (t : Table). t.changes) (one_table prepared_disk u full_table b full_shows) in
    let both : 0 ≡ 4 = sym few ∙ ap (λ (t : Table). t.changes) same ∙ many in
    absurd cc

pub each : (c : Image) → (c ≡ formatted) ⊎ (c ≡ prepared_disk) → (t : Table) × ShowsTable c t
each c (inl is) = (new_table, subst (λ (d : Image). ShowsTable d new_table) (sym is) new_shows)
each c (inr is) = (full_table, subst (λ (d : Image). ShowsTable d full_table) (sym is) full_shows)

pub other : ShowsOneOf (resting formatted) prepared_disk → ⊥
other one = apart one.table one.table (subst (λ (d : Image). ShowsTable d one.table) one.left one.same) one.shows refl
