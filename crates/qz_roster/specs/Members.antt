-- Who is a member of which group.
use Rattle.std.specs.BTreeMap.{get}
use Rattle.std.specs.Prelude.{◌≡◌, ℕ, Bool, false, List, IsSome, Option, Some, None, unwrap_or}
use Rattle.qz_terms.specs.declared.record.Record.{Record}
use Rattle.qz_terms.specs.declared.request.Request.{Request}
use Rattle.qz_terms.specs.declared.request.Request.TheVariants as request
use Rattle.qz_terms.specs.Catalog.{is_member}
use Rattle.qz_roster.specs.declared.members.Members.{Members}
use Rattle.qz_room.specs.Pairs.{pair_cmp}

abbrev pub is_joined : Members → ℕ → ℕ → Bool
is_joined m group user = unwrap_or (get pair_cmp m.joined (group, user)) false

-- These are the members that the records tell.
pub record AreMembers (c : List Record) (m : Members) : Type 0 where
  pub each : (group user : ℕ) → is_joined m group user ≡ is_member c group user

-- the group and its new member
abbrev pub joined : Option Request → Option (ℕ × ℕ)
joined (Some (request.Member group user)) = Some (group, user)
joined o = None

-- There is room for a new member.
pub record HasMemberRoom (m : Members) (o : Option Request) : Type 0 where
  pub there : (member : ℕ × ℕ) → joined o ≡ Some member → IsSome (get pair_cmp m.joined member)
