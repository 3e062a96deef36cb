use Rattle.std.proofs.Common.{◌≡◌, ◌≢◌, length, map, string_bytes, arith}
use Rattle.std.proofs.lemmas.Bool.Decides.{nat_tests}
use Rattle.std.proofs.lemmas.List.{length-map}
use Rattle.castle.proofs.ArgumentLemmas.{no_subcommand}
use Rattle.castle.proofs.arguments.subcommand_of.Goals as goal
use Rattle.castle.proofs.arguments.subcommand_of.Goals.{then-words-lt2, else-words-lt2+else-words-lt3, then-words-lt3-2, else-words-lt3-2+else-words-lt4, then-words-lt4-2, else-words-lt4-2+else-words-lt5, then-words-lt5-2, else-words-lt5-2+else-words-lt6}

pub returns : goal.returns
returns c =
    let count : length (map string_bytes c.args.words.now) ≡ length c.args.words.now = length-map c.args.words.now string_bytes in
    let two : length (map string_bytes c.args.words.now) ≢ 2 = elim c.if-words-lt2.branch [ then-words-lt2 w ↦ grind (arith, nat_tests) | else-words-lt2+else-words-lt3 w ↦ grind (arith, nat_tests) ] in
    let three : length (map string_bytes c.args.words.now) ≢ 3 = elim c.if-words-lt3-2.branch [ then-words-lt3-2 w ↦ grind (arith, nat_tests) | else-words-lt3-2+else-words-lt4 w ↦ grind (arith, nat_tests) ] in
    let four : length (map string_bytes c.args.words.now) ≢ 4 = elim c.if-words-lt4-2.branch [ then-words-lt4-2 w ↦ grind (arith, nat_tests) | else-words-lt4-2+else-words-lt5 w ↦ grind (arith, nat_tests) ] in
    let five : length (map string_bytes c.args.words.now) ≢ 5 = elim c.if-words-lt5-2.branch [ then-words-lt5-2 w ↦ grind (arith, nat_tests) | else-words-lt5-2+else-words-lt6 w ↦ grind (arith, nat_tests) ] in
    no_subcommand (map string_bytes c.args.words.now) two three four five
