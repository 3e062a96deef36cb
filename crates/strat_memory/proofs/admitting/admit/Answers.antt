use Rattle.std.proofs.Common.{◌≡◌, List, true, refl, sym, ap, subst, ◌∙◌}
use Rattle.std.specs.List.{list_all}
use Rattle.strat_base.specs.declared.descriptors.LevelDesc.{LevelDesc}
use Rattle.def_bytes.specs.Arrays.{blocks_of}
use Rattle.strat_gate.specs.SuperView.{super_of}
use Rattle.strat_manifest.specs.ManifestView.{manifest_of}
use Rattle.def_recovery.specs.Opening.{has_own_versions}
use Rattle.strat_memory.specs.Held.{ArePlaced}
use Rattle.strat_memory.specs.Admitting.{MayBePlaced}
use Rattle.strat_memory.proofs.AdmitLemmas.{may_be_placed, versions_fail, admitted}
use Rattle.strat_memory.proofs.admitting.admit.Goals as goal

pub place_levels-requires : goal.place_levels-requires
place_levels-requires c = record {
  fits = subst (λ (ls : List LevelDesc). MayBePlaced ls) (sym (c.in_ok-listed.ensures.ok ∙ c.as_slice.ensures.ok))
      (may_be_placed (manifest_of c.args.manifest) c.requires.kept (super_of c.args.sb.now) (rw c.in-Some.is at c.in_ok-_space.ensures.found));
}

pub returns-in_default-2-clause-none : goal.returns-in_default-2-clause-none
returns-in_default-2-clause-none c = λ _.
    versions_fail (super_of c.args.sb.now) (record { manifest = manifest_of c.args.manifest; blocks = blocks_of c.args.chain })
    (ap (λ (ls : List LevelDesc). list_all has_own_versions ls) (sym (c.in_ok-listed.ensures.ok ∙ c.as_slice.ensures.ok)) ∙ (rw c.in_default-2.is at c.in_ok-levels.ensures.none))

pub returns-clause-kept : goal.returns-clause-kept
returns-clause-kept c =
    let same = c.in_ok-listed.ensures.ok ∙ c.as_slice.ensures.ok in
    admitted (super_of c.args.sb.now) (manifest_of c.args.manifest) c.args.chain c.in-Some-2.levels _ refl refl
    (subst (λ (ls : List LevelDesc). ArePlaced ls c.in-Some-2.levels) same (rw c.in-Some-2.is at c.in_ok-levels.ensures.ok))
    c.requires.kept (subst (λ (ls : List LevelDesc). list_all has_own_versions ls ≡ true) same (rw c.in-Some-2.is at c.in_ok-levels.ensures.kept)) (rw c.in-Some.is at c.in_ok-_space.ensures.kept)
