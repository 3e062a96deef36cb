-- Lines in parts.
use Rattle.std.specs.Prelude.{ℕ, ◌-◌, List, [], ◌∷◌, length, codes}
use Rattle.std.specs.Fmt.{decimal}
use Rattle.strat_base.specs.declared.descriptors.ArrayDesc.{ArrayDesc}
use Rattle.def_recovery.specs.Head.{Head, head_versions, head_updates, head_changes, descriptors, head_stored}
use Rattle.def_texts.specs.Texts.{joined, fraction}

-- the line of an array up to its versions
abbrev pub fractions_text : ArrayDesc → List ℕ
fractions_text a = joined (
    codes "array " ∷ decimal a.id ∷ codes " density " ∷ fraction a.least a.entries
    ∷ codes " lead " ∷ fraction a.leads a.entries
    ∷ codes " versions " ∷ [])

-- the arguments of a workload
abbrev pub workload_line : ℕ → ℕ → List ℕ
workload_line seed count =
    joined (codes "workload seed " ∷ decimal seed ∷ codes " changes " ∷ decimal count ∷ [])

-- the versions that a workload left, and its updates and clones
abbrev pub counts_line : Head → List ℕ
counts_line h = joined (
    codes "versions " ∷ decimal (length (head_versions h))
    ∷ codes " updates " ∷ decimal (head_updates h)
    ∷ codes " clones " ∷ decimal (head_changes h - head_updates h) ∷ [])

-- the levels that a workload left with their arrays, what is stored, and what was written
abbrev pub arrays_line : Head → List ℕ
arrays_line h = joined (
    codes "levels " ∷ decimal (length h.manifest.levels)
    ∷ codes " arrays " ∷ decimal (length (descriptors h.manifest))
    ∷ codes " stored " ∷ decimal (head_stored h)
    ∷ codes " written " ∷ decimal h.manifest.written ∷ [])
