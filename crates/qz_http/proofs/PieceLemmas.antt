-- What a link gives stays so, whatever bytes follow.
use Rattle.std.proofs.Common.{◌≡◌, ℕ, ◌+◌, ◌-◌, ◌<◌, ◌≤◌, ◌⊎◌, inl, inr, Bool, false, List, [], ◌++◌, length, take, drop, sym, ap, subst, ◌∙◌, arith, append_assoc, length-append}
use Rattle.std.proofs.lemmas.List.{append-nil, drop-append-le, length-take, take-append-le, take_all}
use Rattle.std.proofs.lemmas.Bool.{cases_lt}
use Rattle.std.proofs.Math.Seq.{take-append-add}
use Rattle.httparse.specs.Grammar.{NeverHasRequest, HasNoRequest, ReadsRequest, RequestHead, print_request}
use Rattle.httparse.proofs.GrammarLemmas.{ReadsRequest-append}
use Rattle.qz_http.specs.declared.items.Item.{Item}
use Rattle.qz_http.specs.declared.items.Item.TheVariants as item
use Rattle.qz_http.specs.declared.responses.Route.{Route}
use Rattle.qz_http.specs.Items.{item_of}
use Rattle.qz_http.specs.Judgements.{BeginsWith, IsOpen, IsUnfinished, Refuses, at_fault, first_bytes, hopeless, too_long}
use Rattle.qz_http.specs.Links.{Gives, Link, Stays, Takes, awaiting, body_length, ended, fed, head_length, refused, stays, takes, waiting}
use Rattle.qz_http.specs.Targets.{is_past_target}
use Rattle.qz_http.proofs.TargetLemmas.{past_target-append}

first-append : (bytes more : List ℕ) → (x : List ℕ) × (first_bytes (bytes ++ more) ≡ first_bytes bytes ++ x)
first-append bytes more = by (cases_lt (length bytes) 8192)
  where
    by : (length bytes < 8192) ⊎ (8192 ≤ length bytes) → (x : List ℕ) × (first_bytes (bytes ++ more) ≡ first_bytes bytes ++ x)
    by (inl short) =
        let n = 8192 - length bytes in
        let whole : 8192 ≡ length bytes + n = omega arith in
        (take n more, ap (λ k. take k (bytes ++ more)) whole ∙ take-append-add bytes more n ∙ ap (λ b. b ++ take n more) (sym (take_all 8192 bytes (omega (arith, short)))))
    by (inr long) = ([], take-append-le 8192 bytes more long ∙ sym (append-nil (take 8192 bytes)))

begins-append : (bytes more : List ℕ) (h : RequestHead) → BeginsWith bytes h → BeginsWith (bytes ++ more) h
begins-append bytes more h begins =
    let x = first-append bytes more in
    let R : List ℕ → Type 0 = λ b. ReadsRequest b h (begins.0 ++ x.0) in
    (begins.0 ++ x.0, subst R (sym x.1) (ReadsRequest-append (first_bytes bytes) h begins.0 x.0 begins.1))

never-append : (bytes x : List ℕ) → NeverHasRequest bytes → NeverHasRequest (bytes ++ x)
never-append bytes x never = λ more. let N : List ℕ → Type 0 = λ b. HasNoRequest b in subst N (sym (append_assoc bytes x more)) (never (x ++ more))

unfinished-append : (bytes more : List ℕ) → 8192 ≤ length bytes → IsUnfinished bytes → IsUnfinished (bytes ++ more)
unfinished-append bytes more long is =
    let same : first_bytes bytes ≡ first_bytes (bytes ++ more) = sym (take-append-le 8192 bytes more long) in
    record { no_head = let N : List ℕ → Type 0 = λ b. HasNoRequest b in subst N same is.no_head; goes_on = let O : List ℕ → Type 0 = λ b. IsOpen b in subst O same is.goes_on }

refuses-append : (bytes more : List ℕ) (status : ℕ) → Refuses bytes status → Refuses (bytes ++ more) status
refuses-append bytes more _ (hopeless is) =
    let x = first-append bytes more in
    hopeless (record {
      never = let N : List ℕ → Type 0 = λ b. NeverHasRequest b in subst N (sym x.1) (never-append (first_bytes bytes) x.0 is.never);
      past = ap (λ b. is_past_target b) x.1 ∙ past_target-append (first_bytes bytes) x.0 is.past;
    })
refuses-append bytes more _ (too_long long is) = too_long (omega (arith, long, length-append bytes more)) (unfinished-append bytes more long is)
refuses-append bytes more status (at_fault _ h begins fault) = at_fault status h (begins-append bytes more h begins) fault

pub head_within : (bytes : List ℕ) (h : RequestHead) → BeginsWith bytes h → head_length h ≤ length bytes
head_within bytes h begins =
    let is : length (take 8192 bytes) ≡ length (print_request h ++ begins.0) = ap length begins.1.1 in
    omega (arith, is, length-append (print_request h) begins.0, length-take 8192 bytes)

takes-append : (bytes more : List ℕ) (given : Item) (rest : List ℕ) (at : Route) (closing : Bool) → Takes bytes given rest at closing → Takes (bytes ++ more) given (rest ++ more) at closing
takes-append bytes more given rest at closing t =
    let h = t.read in
    let n = head_length h in
    let part : drop n (bytes ++ more) ≡ drop n bytes ++ more = drop-append-le n bytes more (head_within bytes h t.has_head.begins) in
    let body : take (body_length h) (drop n bytes ++ more) ≡ take (body_length h) (drop n bytes) = take-append-le (body_length h) (drop n bytes) more t.whole in
    let tail : drop (body_length h) (drop n bytes ++ more) ≡ drop (body_length h) (drop n bytes) ++ more = drop-append-le (body_length h) (drop n bytes) more t.whole in
    record {
      read = h;
      has_head = record { begins = begins-append bytes more h t.has_head.begins; without_fault = t.has_head.without_fault };
      whole = omega (arith, t.whole, ap length part, length-append (drop n bytes) more);
      given_is = t.given_is ∙ ap (λ b. item_of h b) (sym (ap (λ b. take (body_length h) b) part ∙ body));
      rest_is = ap (λ b. b ++ more) t.rest_is ∙ sym (ap (λ b. drop (body_length h) b) part ∙ tail);
      route_is = t.route_is;
      closing_is = t.closing_is;
    }

stays-append : (finished : Bool) (bytes more : List ℕ) (given : Item) → finished ≡ false → (given ≡ item.Need → ⊥) → Stays finished bytes given → Stays finished (bytes ++ more) given
stays-append finished bytes more _ unended decided (awaiting awaits) = absurd (decided (ap (λ f. waiting f bytes) unended))
stays-append finished bytes more _ unended decided (refused status is) = refused status (refuses-append bytes more status is)

pub gives-append : (link after : Link) (given : Item) (more : List ℕ) → link.finished ≡ false → (given ≡ item.Need → ⊥) → Gives link given after → Gives (fed link more) given (fed after more)
gives-append link _ _ more unended decided (ended why is) = ended why is
gives-append link _ given more unended decided (stays _ none is) = stays given none (stays-append link.finished link.left more given unended decided is)
gives-append link _ given more unended decided (takes _ rest at closing none is) = takes given (rest ++ more) at closing none (takes-append link.left more given rest at closing is)
