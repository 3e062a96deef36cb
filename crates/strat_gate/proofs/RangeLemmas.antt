-- A superblock that passes the tests of its fields is lawful.
use Rattle.std.proofs.Common.{◌≡◌, ◌<◌, ◌^◌, true, leb, ltb}
use Rattle.std.proofs.lemmas.Bool.{and_parts, leb-true, ltb-true}
use Rattle.def_bytes.specs.Layout.{newest_format, shortest_manifest, first_free}
use Rattle.def_bytes.specs.SuperBlock.{Super, IsLawful, in_range}

pub range_lawful : (sb : Super) → in_range sb ≡ true → sb.generation < 2 ^ 64 → sb.length < 2 ^ 32 → IsLawful sb
range_lawful sb found generation length =
    let p1 = and_parts _ (leb sb.versions_max 16384) found in
    let p2 = and_parts _ (leb 1 sb.versions_max) p1.0 in
    let p3 = and_parts _ (leb sb.changes_max 16777216) p2.0 in
    let p4 = and_parts _ (leb 1 sb.changes_max) p3.0 in
    let p5 = and_parts _ (leb sb.region 1) p4.0 in
    let p6 = and_parts _ (leb (shortest_manifest sb.format) sb.length) p5.0 in
    let p7 = and_parts _ (ltb sb.manifest 4294967295) p6.0 in
    let p8 = and_parts _ (leb (first_free sb.mem) sb.manifest) p7.0 in
    let p9 = and_parts _ (leb sb.mem 4096) p8.0 in
    let p10 = and_parts _ (leb 4 sb.mem) p9.0 in
    let p11 = and_parts _ (leb 1 sb.generation) p10.0 in
    let p12 = and_parts (leb 1 sb.format) (leb sb.format newest_format) p11.0 in
    record {
      format_least = leb-true 1 sb.format p12.0;
      format_most = leb-true sb.format newest_format p12.1;
      generation_least = leb-true 1 sb.generation p11.1;
      generation_fits = generation;
      manifest_least = leb-true (first_free sb.mem) sb.manifest p8.1;
      manifest_most = ltb-true sb.manifest 4294967295 p7.1;
      length_least = leb-true (shortest_manifest sb.format) sb.length p6.1;
      length_fits = length;
      region_most = leb-true sb.region 1 p5.1;
      mem_least = leb-true 4 sb.mem p10.1;
      mem_most = leb-true sb.mem 4096 p9.1;
      changes_least = leb-true 1 sb.changes_max p4.1;
      changes_most = leb-true sb.changes_max 16777216 p3.1;
      versions_least = leb-true 1 sb.versions_max p2.1;
      versions_most = leb-true sb.versions_max 16384 p1.1;
    }
