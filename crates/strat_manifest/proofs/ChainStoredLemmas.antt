-- A manifest that was written into a chain of blocks is read from there.
use Rattle.std.proofs.Common.{◌≡◌, ◌≤◌, ℕ, suc, Bool, true, false, cond, eqb, not, ◌&&◌, ◌||◌, ◌+◌, ◌*◌, map, List, [], ◌∷◌, length, Some, None, Ok, sym, ap, ◌∙◌, arith, true≢false}
use Rattle.std.specs.List.{flat_map, list_all}
use Rattle.std.proofs.lemmas.Bool.{and_parts, eqb-true}
use Rattle.std.proofs.lemmas.List.{length-map}
use Rattle.def_crash.specs.Image.{Image}
use Rattle.def_bytes.specs.Chain.{IsChain, next_block}
use Rattle.def_bytes.specs.Chained.{manifest_at}
use Rattle.def_bytes.specs.Layout.{shortest_manifest}
use Rattle.def_bytes.specs.Manifest.{Manifest, SpellsManifest, manifest_bytes, is_lawful_manifest, level_bytes}
use Rattle.strat_base.specs.Marks.{is_dropped, are_pruned}
use Rattle.def_bytes.proofs.ChainLemmas.{chain_read}
use Rattle.def_bytes.proofs.ManifestLemmas.{pass_at}
use Rattle.strat_manifest.proofs.PrintLemmas.{manifest_size}

-- a lawful manifest has a mark for each version
marks_count : (format : ℕ) (m : Manifest) → is_lawful_manifest format m ≡ true → length m.marks ≡ suc (length m.parents)
marks_count format m lawful =
    let tree = None ∷ map (λ p. Some p) m.parents in
    let pruned : are_pruned tree m.marks ≡ true = pass_at _ 12 lawful in
    let tests = (and_parts (eqb (length m.marks) (length tree) && not (is_dropped m.marks 0)) _ pruned).0 in
    eqb-true (length m.marks) (length tree) (and_parts (eqb (length m.marks) (length tree)) (not (is_dropped m.marks 0)) tests).0
    ∙ ap suc (length-map m.parents (λ (p : ℕ). Some p))

-- its spelling is as long as the shortest of its format
pub some_bytes : (format : ℕ) (m : Manifest) → is_lawful_manifest format m ≡ true → shortest_manifest format ≤ length (manifest_bytes format m)
some_bytes format m lawful = by_format (eqb format 1) (eqb format 2) fields size
  where
    fields : (eqb format 2 || (eqb format 1 && eqb m.compacted 0 && list_all not m.marks)) ≡ true
    fields = pass_at _ 10 lawful

    size : length (manifest_bytes format m) ≡ 29 + (cond (eqb format 2) 8 0 + (cond (eqb format 2) (length m.marks) 0 + (4 * length m.parents + length (flat_map level_bytes m.levels))))
    size = manifest_size format m

    by_format : (one two : Bool) → (two || (one && eqb m.compacted 0 && list_all not m.marks)) ≡ true
        → length (manifest_bytes format m) ≡ 29 + (cond two 8 0 + (cond two (length m.marks) 0 + (4 * length m.parents + length (flat_map level_bytes m.levels)))) → cond one 29 38 ≤ length (manifest_bytes format m)
    by_format true two has long = omega (arith, long)
    by_format false true has long = let count = marks_count format m lawful in omega (arith, long, count)
    by_format false false has long = absurd (true≢false (sym has))

pub some_byte : (format : ℕ) (m : Manifest) → 1 ≤ length (manifest_bytes format m)
some_byte format m = let n = manifest_size format m in omega (arith, n)

pub chain_stored : (format : ℕ) (g : Image) (first n : ℕ) (blocks bytes : List ℕ) (m : Manifest) → SpellsManifest format bytes m → IsChain g blocks bytes → first ≡ next_block blocks → n ≡ length (manifest_bytes format m)
    → manifest_at format g first n ≡ Ok (record { manifest = m; blocks = blocks })
chain_stored format g first n [] bytes m spells chain is long =
    absurd (let some = some_byte format m in let text = ap length spells.text in let count = chain.count in omega (arith, some, text, count))
chain_stored format g first n (b ∷ blocks) bytes m spells chain is long =
    (λ i. manifest_at format g (is i) ((long ∙ ap length (sym spells.text)) i)) ∙ chain_read format g b blocks bytes m spells chain
