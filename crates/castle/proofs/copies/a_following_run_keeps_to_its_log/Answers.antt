use Rattle.castle.proofs.copies.a_following_run_keeps_to_its_log.Goals as goal

pub returns-clause-ok : goal.returns-clause-ok
returns-clause-ok g c = λ path status changes versions x y d e f log ran exposed is each.
    let copies = ran.2.copies f changes versions log exposed is each in
    (ran.0, ran.1, copies, copies.took, copies.splits, copies.keeps)

pub returns-clause-images : goal.returns-clause-images
returns-clause-images g c = λ changes versions x y d e how log i keeps since.
    let shown = keeps.images i since in
    (shown.table, shown.shows, shown.of_log)

pub returns-clause-left : goal.returns-clause-left
returns-clause-left g c = λ changes versions x y d e how log i keeps image.
    let shown = keeps.left i image in
    (shown.table, shown.shows, shown.of_log, shown.holds)

pub returns-clause-same : goal.returns-clause-same
returns-clause-same g c = λ changes versions x y d e how log keeps i image.
    let shown = keeps.left i image in
    record { table = shown.table; shows = shown.shows; of_log = shown.of_log }

pub returns-clause-found : goal.returns-clause-found
returns-clause-found g c = λ changes versions x y d e how log keeps. (keeps.sends, keeps.free)
