use Rattle.std.proofs.Common.{◌≡◌, ℕ, [], ◌++◌, List, take, ap, ◌∙◌}
use Rattle.strat_base.specs.Numbers.{be, placed}
use Rattle.def_bytes.specs.SuperBlock.{Super, magic, spelled, fields, zeros}
use Rattle.def_bytes.proofs.SuperBlockLemmas.{spelled_next}
use Rattle.strat_gate.specs.SuperView.{super_of}
use Rattle.strat_gate.proofs.superblock.spell.Goals as goal

pub returns : goal.returns
returns c =
    let sb : Super = super_of c.args.sb.now in
    let fs : List (ℕ × ℕ) = fields sb in
    let s0 : c.args.into.now ≡ spelled [] ++ zeros 4095 = c.requires.none in
    let s1 : c.put_u64.new.into ≡ spelled (take 1 fs) ++ zeros 4087 =
    c.put_u64.ensures ∙ ap (λ (l : List ℕ). placed l 0 (be 8 magic)) s0 ∙ spelled_next [] 8 magic 4087 in
    let s2 : c.put_u16.new.into ≡ spelled (take 2 fs) ++ zeros 4085 =
    c.put_u16.ensures ∙ ap (λ (l : List ℕ). placed l 8 (be 2 sb.format)) s1 ∙ spelled_next (take 1 fs) 2 sb.format 4085 in
    let s3 : c.put_u64-2.new.into ≡ spelled (take 3 fs) ++ zeros 4077 =
    c.put_u64-2.ensures ∙ ap (λ (l : List ℕ). placed l 10 (be 8 sb.generation)) s2 ∙ spelled_next (take 2 fs) 8 sb.generation 4077 in
    let s4 : c.put_u32.new.into ≡ spelled (take 4 fs) ++ zeros 4073 =
    c.put_u32.ensures ∙ ap (λ (l : List ℕ). placed l 18 (be 4 sb.manifest)) s3 ∙ spelled_next (take 3 fs) 4 sb.manifest 4073 in
    let s5 : c.put_u32-2.new.into ≡ spelled (take 5 fs) ++ zeros 4069 =
    c.put_u32-2.ensures ∙ ap (λ (l : List ℕ). placed l 22 (be 4 sb.length)) s4 ∙ spelled_next (take 4 fs) 4 sb.length 4069 in
    let s6 : c.put_u8.new.into ≡ spelled (take 6 fs) ++ zeros 4068 =
    c.put_u8.ensures ∙ ap (λ (l : List ℕ). placed l 26 (be 1 sb.region)) s5 ∙ spelled_next (take 5 fs) 1 sb.region 4068 in
    let s7 : c.put_u32-3.new.into ≡ spelled (take 7 fs) ++ zeros 4064 =
    c.put_u32-3.ensures ∙ ap (λ (l : List ℕ). placed l 27 (be 4 sb.mem)) s6 ∙ spelled_next (take 6 fs) 4 sb.mem 4064 in
    let s8 : c.put_u32-4.new.into ≡ spelled (take 8 fs) ++ zeros 4060 =
    c.put_u32-4.ensures ∙ ap (λ (l : List ℕ). placed l 31 (be 4 sb.changes_max)) s7 ∙ spelled_next (take 7 fs) 4 sb.changes_max 4060 in
    c.put_u32-5.ensures ∙ ap (λ (l : List ℕ). placed l 35 (be 4 sb.versions_max)) s8 ∙ spelled_next (take 8 fs) 4 sb.versions_max 4056
