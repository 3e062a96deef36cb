use Rattle.castle.proofs.laws.what_a_run_leaves_alone_is_as_it_was.Goals as goal

pub returns-clause-none : goal.returns-clause-none
returns-clause-none g c = λ d status a b i j m n leaves. leaves

pub returns-clause-serve : goal.returns-clause-serve
returns-clause-serve g c = λ path d status a b i j m n leaves early. leaves early

pub returns-clause-format : goal.returns-clause-format
returns-clause-format g c = λ path mem changes versions d status a b i j m n leaves. leaves

pub returns-clause-levels : goal.returns-clause-levels
returns-clause-levels g c = λ path d status a b i j m n leaves. leaves

pub returns-clause-check : goal.returns-clause-check
returns-clause-check g c = λ path d status a b i j m n leaves. leaves

pub returns-clause-workload : goal.returns-clause-workload
returns-clause-workload g c = λ path seed count d status a b i j m n leaves. leaves
