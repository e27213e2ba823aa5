-- What is set otherwise for several groups, taken together: in each setting by itself the most lenient.
use Rattle.std.specs.Prelude.{ℕ, Bool, not, ◌&&◌, ◌||◌, List, Option, Some, None, if◌then◌else◌, nat_lt, ◌==◌, filter_map}
use Rattle.qz_terms.specs.declared.access.Override.{Override}
use Rattle.qz_terms.specs.Access.{lesser, longest}
use Rattle.qz_terms.specs.Lists.{least}

abbrev pub none_set : Override
none_set = record { opens = None; closes = None; limit = None; allowed = None }

-- whether the second of two ends is the longer; 0 is none at all, which is the longest
abbrev pub is_longer : ℕ → ℕ → Bool
is_longer a b = not (a == 0) && ((b == 0) || nat_lt a b)

abbrev pub longer : Option ℕ → Option ℕ → Option ℕ
longer None b = b
longer (Some a) None = Some a
longer (Some a) (Some b) = if is_longer a b then Some b else Some a

abbrev pub more_lenient : Override → Override → Override
more_lenient a b = record { opens = lesser a.opens b.opens; closes = longer a.closes b.closes; limit = longer a.limit b.limit; allowed = longer a.allowed b.allowed }

abbrev pub most_lenient : List Override → Override
most_lenient groups = record {
  opens = least (filter_map (λ (o : Override). o.opens) groups);
  closes = longest (filter_map (λ (o : Override). o.closes) groups);
  limit = longest (filter_map (λ (o : Override). o.limit) groups);
  allowed = longest (filter_map (λ (o : Override). o.allowed) groups);
}
