-- What stands at the front of the bytes of a link, as a reader of the code answers it.
use Rattle.std.specs.Prelude.{ℕ, ◌≡◌, ◌+◌, ◌<◌, ◌≤◌, ◌^◌, List, length, take, drop}
use Rattle.qz_http.specs.declared.fronts.Front.{Front}
use Rattle.qz_http.specs.declared.fronts.Front.TheVariants as front
use Rattle.qz_http.specs.declared.heads.Head.{Head}
use Rattle.qz_http.specs.Judgements.{IsWhole, Refuses}
use Rattle.qz_http.specs.Links.{Awaits}

-- a head that isn't refused, and all of its body
pub record IsRequest (bytes : List ℕ) (head : Head) (body : List ℕ) (len : ℕ) : Type 0 where
  pub whole : IsWhole bytes head
  pub fits : len ≤ length bytes
  pub body_fits : head.body ≤ length (drop head.len bytes)
  pub body_is : body ≡ take head.body (drop head.len bytes)
  pub len_is : len ≡ head.len + head.body

-- few bytes, in which no request is whole
pub record IsPart (bytes : List ℕ) : Type 0 where
  pub awaits : Awaits bytes
  pub few : length bytes < 2 ^ 32

abbrev pub IsFront : List ℕ → Front → Type 0
IsFront bytes (front.Request head body len) = IsRequest bytes head body.now len
IsFront bytes front.Part = IsPart bytes
IsFront bytes (front.Bad status) = Refuses bytes status
