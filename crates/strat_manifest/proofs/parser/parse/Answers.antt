use Rattle.std.proofs.Common.{◌≡◌, inl, inr, None, rules, sym, ap, ◌∙◌, arith}
use Rattle.def_bytes.specs.Manifest.{manifest_in}
use Rattle.strat_manifest.specs.Reading.{read_head}
use Rattle.strat_manifest.specs.declared.manifest.ManifestFault.TheVariants as fault
use Rattle.strat_manifest.proofs.ParseLemmas.{head_missing, versions_refused, behind_missing, all_refused, all_spelled, all_found, all_marks}
use Rattle.strat_manifest.proofs.parser.parse.Goals as goal

pub returns-in_err-head-clause-cause : goal.returns-in_err-head-clause-cause
returns-in_err-head-clause-cause c =
    let none : c.in_err-head.field-0.0 ≡ fault.Refused → manifest_in c.args.format c.args.bytes.now ≡ None =
    λ refused. head_missing c.args.format c.args.bytes.now (ap (read_head c.args.format) (sym c.new-reader.ensures.ok) ∙ c.in_err-head.ensures.ok refused)
    in
    search (rules, none)

pub returns-then-head-eq0-clause-cause : goal.returns-then-head-eq0-clause-cause
returns-then-head-eq0-clause-cause c = λ _.
    versions_refused c.args.format c.args.bytes.now c.in_ok-head.head c.take_head.new.reader (ap (read_head c.args.format) (sym c.new-reader.ensures.ok) ∙ c.in_ok-head.ensures.ok)
    (elim c.then-head-eq0.either [ inl none ↦ inl none | inr many ↦ inr many.1 ])

pub returns-in_err-manifest-clause-cause : goal.returns-in_err-manifest-clause-cause
returns-in_err-manifest-clause-cause c =
    let head = ap (read_head c.args.format) (sym c.new-reader.ensures.ok) ∙ c.in_ok-head.ensures.ok in
    let none : c.in_err-manifest.field-0.0 ≡ fault.Refused → manifest_in c.args.format c.args.bytes.now ≡ None =
    λ refused. behind_missing c.args.format c.args.bytes.now c.in_ok-head.head c.take_head.new.reader head (omega arith) (c.in_err-manifest.ensures.ok refused)
    in
    search (rules, none)

pub returns-then-not-is_all-clause-cause : goal.returns-then-not-is_all-clause-cause
returns-then-not-is_all-clause-cause c = λ _.
    let head = ap (read_head c.args.format) (sym c.new-reader.ensures.ok) ∙ c.in_ok-head.ensures.ok in
    all_refused c.args.format c.args.bytes.now c.in_ok-head.head c.take_head.new.reader head (omega arith) c.in_ok-manifest.manifest c.take_behind.new.reader c.in_ok-manifest.ensures.ok
    (λ i. let f = c.type_inv.bytes i in omega arith) c.if-not-is_all.ensures.ok

pub returns-clause-ok : goal.returns-clause-ok
returns-clause-ok c =
    let head = ap (read_head c.args.format) (sym c.new-reader.ensures.ok) ∙ c.in_ok-head.ensures.ok in
    all_found c.args.format c.args.bytes.now c.in_ok-head.head c.take_head.new.reader head (omega arith) c.in_ok-manifest.manifest c.take_behind.new.reader c.in_ok-manifest.ensures.ok
    (λ i. let f = c.type_inv.bytes i in omega arith) c.if-not-is_all.ensures.ok

pub returns-clause-found : goal.returns-clause-found
returns-clause-found c =
    let head = ap (read_head c.args.format) (sym c.new-reader.ensures.ok) ∙ c.in_ok-head.ensures.ok in
    all_spelled c.args.format c.args.bytes.now c.in_ok-head.head c.take_head.new.reader head (omega arith) c.in_ok-manifest.manifest c.take_behind.new.reader c.in_ok-manifest.ensures.ok
    (λ i. let f = c.type_inv.bytes i in omega arith) c.if-not-is_all.ensures.ok

pub returns-clause-kept : goal.returns-clause-kept
returns-clause-kept c =
    let head = ap (read_head c.args.format) (sym c.new-reader.ensures.ok) ∙ c.in_ok-head.ensures.ok in
    all_marks c.args.format c.args.bytes.now c.in_ok-head.head c.take_head.new.reader head (omega arith) c.in_ok-manifest.manifest c.take_behind.new.reader c.in_ok-manifest.ensures.ok
    (λ i. let f = c.type_inv.bytes i in omega arith) c.if-not-is_all.ensures.ok
