-- Plans written out, for two versions of which one is the other's child.
use Rattle.std.specs.Prelude.{List, [], ◌∷◌, Some, None}
use Rattle.strat_base.specs.Tree.{Parents}
use Rattle.strat_base.specs.Entries.{Entry}
use Rattle.strat_base.specs.Samples.{says}
use Rattle.def_split.specs.Plan.{Plan, in_no_part}

-- version 0 and its child
abbrev pub pair : Parents
pair = None ∷ Some 0 ∷ []

-- the child alone has a key
abbrev pub later_groups : List (List Entry)
later_groups = (says 97 1 49 ∷ []) ∷ []

-- version 0 sees nothing and is in no part
abbrev pub later_plan : Plan
later_plan = record {
  labels = in_no_part ∷ 0 ∷ [];
  parts = record { above = Some 0; leads = 1; entries = 1; least = 1 } ∷ [];
}

-- version 0 has a key, and the child three others
abbrev pub wide_groups : List (List Entry)
wide_groups =
    (says 97 0 49 ∷ []) ∷ (says 98 1 49 ∷ []) ∷ (says 99 1 49 ∷ []) ∷ (says 100 1 49 ∷ []) ∷ []

-- one array of all four entries would be too sparse for version 0
abbrev pub wide_plan : Plan
wide_plan = record {
  labels = 0 ∷ 1 ∷ [];
  parts =
      record { above = None; leads = 1; entries = 1; least = 1 }
      ∷ record { above = Some 0; leads = 3; entries = 4; least = 4 }
      ∷ [];
}

-- one key, of which both versions have an entry
abbrev pub same_groups : List (List Entry)
same_groups = (says 97 1 50 ∷ says 97 0 49 ∷ []) ∷ []

-- one array for both
abbrev pub same_plan : Plan
same_plan = record {
  labels = 0 ∷ 0 ∷ [];
  parts = record { above = None; leads = 2; entries = 2; least = 1 } ∷ [];
}

-- version 0 has a key, and the child two others: in one array a third is live at version 0
abbrev pub third_groups : List (List Entry)
third_groups = (says 97 0 49 ∷ []) ∷ (says 98 1 49 ∷ []) ∷ (says 99 1 49 ∷ []) ∷ []

-- one array for both
abbrev pub third_plan : Plan
third_plan = record {
  labels = 0 ∷ 0 ∷ [];
  parts = record { above = None; leads = 3; entries = 3; least = 1 } ∷ [];
}

-- version 0 has two keys, and the child two others: half of the child's own array are leads
abbrev pub half_groups : List (List Entry)
half_groups =
    (says 97 0 49 ∷ []) ∷ (says 98 0 49 ∷ []) ∷ (says 99 1 49 ∷ []) ∷ (says 100 1 49 ∷ []) ∷ []

-- an array for each
abbrev pub half_plan : Plan
half_plan = record {
  labels = 0 ∷ 1 ∷ [];
  parts =
      record { above = None; leads = 2; entries = 2; least = 2 }
      ∷ record { above = Some 0; leads = 2; entries = 4; least = 4 }
      ∷ [];
}

-- plans that are none: a quarter is live at version 0
abbrev pub sparse_plan : Plan
sparse_plan = record {
  labels = 0 ∷ 0 ∷ [];
  parts = record { above = None; leads = 4; entries = 4; least = 1 } ∷ [];
}

-- a third of the child's entries are leads
abbrev pub copied_plan : Plan
copied_plan = record {
  labels = 0 ∷ 1 ∷ [];
  parts =
      record { above = None; leads = 2; entries = 2; least = 2 }
      ∷ record { above = Some 0; leads = 1; entries = 3; least = 3 }
      ∷ [];
}

-- the part of version 0 hangs below version 0
abbrev pub hung_plan : Plan
hung_plan = record {
  labels = 0 ∷ [];
  parts = record { above = Some 0; leads = 1; entries = 2; least = 1 } ∷ [];
}

-- a part has no entries
abbrev pub idle_plan : Plan
idle_plan = record {
  labels = 0 ∷ [];
  parts = record { above = None; leads = 0; entries = 0; least = 0 } ∷ [];
}

-- the child's part is numbered before its parent's
abbrev pub turned_plan : Plan
turned_plan = record {
  labels = 1 ∷ 0 ∷ [];
  parts =
      record { above = Some 0; leads = 3; entries = 4; least = 4 }
      ∷ record { above = None; leads = 1; entries = 1; least = 1 }
      ∷ [];
}

-- the least number live in a part is that of its last version
abbrev pub late_plan : Plan
late_plan = record {
  labels = 0 ∷ 0 ∷ [];
  parts = record { above = None; leads = 3; entries = 3; least = 3 } ∷ [];
}

-- a version with a key is in no part
abbrev pub lost_plan : Plan
lost_plan = record { labels = in_no_part ∷ []; parts = [] }

-- version 0 has the number of a part that is not there
abbrev pub astray_plan : Plan
astray_plan = record { labels = 5 ∷ []; parts = [] }

-- one array for both: the child's two leads were enough for an array of its own
abbrev pub joint_plan : Plan
joint_plan = record {
  labels = 0 ∷ 0 ∷ [];
  parts = record { above = None; leads = 4; entries = 4; least = 2 } ∷ [];
}
