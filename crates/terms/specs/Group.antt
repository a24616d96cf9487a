-- "Group and thresholds": worked out from f alone.
use Rattle.std.specs.Prelude.{ℕ, ◌+◌, ◌*◌, Result, Ok}
use Rattle.terms.specs.Checks.{Check, or_else, if_less, group}
use Rattle.terms.specs.declared.Group.{Group}
use Rattle.terms.specs.declared.Refusal.{Refusal}

-- "there are n = 5f + 1 boxes"
abbrev pub boxes : ℕ → ℕ
boxes f = 5 * f + 1

-- "commit list for logging: 3f + 1 commit votes"
abbrev pub commit_list : ℕ → ℕ
commit_list f = 3 * f + 1

-- "abort list for logging: f + 1 abort votes"
abbrev pub abort_list : ℕ → ℕ
abort_list f = f + 1

-- "commit proof from votes: 5f + 1 commit votes"
abbrev pub commit_proof : ℕ → ℕ
commit_proof f = 5 * f + 1

-- "abort proof from votes: 3f + 1 abort votes"
abbrev pub abort_proof : ℕ → ℕ
abort_proof f = 3 * f + 1

-- "proof from logs: 4f + 1 equal logged decisions"
abbrev pub log_proof : ℕ → ℕ
log_proof f = 4 * f + 1

-- "f is 1 to 5"
abbrev pub largest_f : ℕ
largest_f = 5

-- "group: f not 1 to 5"
unfoldable pub group_wrong : ℕ → Check
group_wrong f = or_else (if_less f 1 group) (if_less largest_f f group)

-- "capacity 1 to 255"
abbrev pub largest_capacity : ℕ
largest_capacity = 255

-- "or capacity not 1 to 255"
unfoldable pub capacity_wrong : ℕ → Check
capacity_wrong capacity = or_else (if_less capacity 1 group) (if_less largest_capacity capacity group)

-- a group, or the refusal
unfoldable pub group_of : ℕ → Result Group Refusal
group_of f = or_else (group_wrong f) (Ok (record { f = f }))
