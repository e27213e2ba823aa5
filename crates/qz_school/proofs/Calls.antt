-- What one call at a list leaves of it, and what it says.
use Rattle.std.proofs.Common.{◌≡◌, List, [], ◌∷◌, ◌++◌, Option, None, Some, Result, Ok, Err, IfSome, sym, subst, ◌∙◌, append-nil}
use Rattle.qz_grading.specs.declared.refusal.Refusal.{Refusal}
use Rattle.qz_grading.specs.declared.refusal.Refusal.TheVariants as refusal
use Rattle.qz_keeper.specs.Lists.{CallEnds, EachMayStand, IsSettled, Looks, OneCall, answered, no_memory, put_in_doubt, stayed_in_doubt}
use Rattle.qz_keeper.proofs.Settling.{mended_may}
use Rattle.qz_terms.specs.declared.record.Record.{Record}
use Rattle.qz_terms.specs.Serial.{Held, Mended, adopted, dropped, stays}
use Rattle.qz_serial.specs.Calls.{LookEnds, looked, unlooked, unread}
use Rattle.qz_serial.proofs.Composing.{ends_mean, look_ends}
use Rattle.qz_serial.proofs.Growing.{Grows, stays_so}
use Rattle.qz_serial.proofs.Seats.{grows_on, mended_grows}

-- ---- the lists that may stand

pub none_more : (P : List Record → Type 0) (l : List Record) (o : Option Record) → o ≡ None → IfSome o (λ r. P (l ++ r ∷ []))
none_more P l None is = tt
none_more P l (Some r) is = absurd cc

-- where none is in doubt, the list alone
pub stands_alone : (P : List Record → Type 0) (k : Held) → k.doubt ≡ None → P k.list → EachMayStand P k
stands_alone P k clear is = record { without = is; with_doubt = none_more P k.list k.doubt clear }

mean-more : (P Q : List Record → Type 0) (l : List Record) (o : Option Record) → ((h : List Record) → Q h → P h) → IfSome o (λ r. Q (l ++ r ∷ [])) → IfSome o (λ r. P (l ++ r ∷ []))
mean-more P Q l None to is = tt
mean-more P Q l (Some r) to is = to (l ++ r ∷ []) is

pub stand_as : (P Q : List Record → Type 0) (k : Held) → ((h : List Record) → Q h → P h) → EachMayStand Q k → EachMayStand P k
stand_as P Q k to e = record { without = to k.list e.without; with_doubt = mean-more P Q k.list k.doubt to e.with_doubt }

both-more : (P Q : List Record → Type 0) (l : List Record) (o : Option Record) → IfSome o (λ r. P (l ++ r ∷ [])) → IfSome o (λ r. Q (l ++ r ∷ [])) → IfSome o (λ r. P (l ++ r ∷ []) × Q (l ++ r ∷ []))
both-more P Q l None one other = tt
both-more P Q l (Some r) one other = (one, other)

pub stand_both : (P Q : List Record → Type 0) (k : Held) → EachMayStand P k → EachMayStand Q k → EachMayStand (λ h. P h × Q h) k
stand_both P Q k one other = record { without = (one.without, other.without); with_doubt = both-more P Q k.list k.doubt one.with_doubt other.with_doubt }

pub stands_mended : (P : List Record → Type 0) (old new : Held) → Mended old new → EachMayStand P old → EachMayStand P new
stands_mended P old new (stays k) e = e
stands_mended P old new (dropped l x) e = record { without = e.without; with_doubt = tt }
stands_mended P old new (adopted l x) e = record { without = e.with_doubt; with_doubt = tt }

ends-stand : {A : Type 0} (failed : Type 0) (refused : Refusal → A) (Answers : List Record → A → List Record → Type 0) (P Q : List Record → Type 0) (m new : Held) (told : A)
    → ((h : List Record) → Q h → P h) → ((h : List Record) (t : A) (g : List Record) → Q h → Answers h t g → P g) → EachMayStand Q m → CallEnds failed refused Answers m new told → EachMayStand P new
ends-stand failed refused Answers P Q m new told to step e (answered was clear says) = stands_alone P new clear (step m.list told new.list e.without says)
ends-stand failed refused Answers P Q m new told to step e (put_in_doubt why answer r was says is said) =
    subst (EachMayStand P) (sym is) (record { without = to m.list e.without; with_doubt = step m.list answer (m.list ++ r ∷ []) e.without says })
ends-stand failed refused Answers P Q m new told to step e (stayed_in_doubt why some is said) = subst (EachMayStand P) (sym is) (stand_as P Q m to e)
ends-stand failed refused Answers P Q m new told to step e (no_memory is said) = subst (EachMayStand P) (sym is) (stand_as P Q m to e)

-- what each answer leaves so, each list that may stand afterwards is
pub call_stands : {A : Type 0} (failed : Type 0) (refused : Refusal → A) (Answers : List Record → A → List Record → Type 0) (P Q : List Record → Type 0) (old new : Held) (told : A)
    → ((h : List Record) → Q h → P h) → ((h : List Record) (t : A) (g : List Record) → Q h → Answers h t g → P g) → EachMayStand Q old → OneCall failed refused Answers old new told → EachMayStand P new
call_stands failed refused Answers P Q old new told to step e call = ends-stand failed refused Answers P Q call.mended new told to step (stands_mended Q old call.mended call.mends e) call.ends

-- a look leaves what may stand as it is
pub look_stands : {A : Type 0} (failed : Type 0) (refused : Refusal → A) (Says : List Record → A → Type 0) (P : List Record → Type 0) (old new : Held) (told : A) → EachMayStand P old → OneCall failed refused (Looks Says) old new told → EachMayStand P new
look_stands failed refused Says P old new told e call = call_stands failed refused (Looks Says) P P old new told (λ h is. is) (λ h t g is says. subst P (sym says.1) is) e call

-- ---- longer lists

ends-grow : {A : Type 0} (failed : Type 0) (refused : Refusal → A) (Answers : List Record → A → List Record → Type 0) (m new : Held) (told : A)
    → ((h : List Record) (t : A) (g : List Record) → Answers h t g → Grows h g) → CallEnds failed refused Answers m new told → Grows m.list new.list
ends-grow failed refused Answers m new told step (answered was clear says) = step m.list told new.list says
ends-grow failed refused Answers m new told step (put_in_doubt why answer r was says is said) = subst (λ (k : Held). Grows m.list k.list) (sym is) (stays_so m.list)
ends-grow failed refused Answers m new told step (stayed_in_doubt why some is said) = subst (λ (k : Held). Grows m.list k.list) (sym is) (stays_so m.list)
ends-grow failed refused Answers m new told step (no_memory is said) = subst (λ (k : Held). Grows m.list k.list) (sym is) (stays_so m.list)

pub call_grows : {A : Type 0} (failed : Type 0) (refused : Refusal → A) (Answers : List Record → A → List Record → Type 0) (old new : Held) (told : A)
    → ((h : List Record) (t : A) (g : List Record) → Answers h t g → Grows h g) → OneCall failed refused Answers old new told → Grows old.list new.list
call_grows failed refused Answers old new told step call = grows_on old.list call.mended.list new.list (mended_grows old call.mended call.mends) (ends-grow failed refused Answers call.mended new told step call.ends)

pub look_grows : {A : Type 0} (failed : Type 0) (refused : Refusal → A) (Says : List Record → A → Type 0) (old new : Held) (told : A) → OneCall failed refused (Looks Says) old new told → Grows old.list new.list
look_grows failed refused Says old new told call = call_grows failed refused (Looks Says) old new told (λ h t g says. record { rest = []; grown = says.1 ∙ sym (append-nil h) }) call

-- ---- other answers

-- those that are meant by them over each list that may stand
pub means_there : {A : Type 0} (failed worse : Type 0) (refused : Refusal → A) (Answers Others : List Record → A → List Record → Type 0) (old new : Held) (told : A)
    → (failed → worse) → EachMayStand (λ h. (t : A) (g : List Record) → Answers h t g → Others h t g) old → OneCall failed refused Answers old new told → OneCall worse refused Others old new told
means_there failed worse refused Answers Others old new told to each call = record {
  mended = call.mended;
  mends = call.mends;
  ends = ends_mean failed worse refused Answers Others call.mended new told to (mended_may (λ h. (t : _) (g : List Record) → Answers h t g → Others h t g) old call.mended call.mends each) call.ends;
}

-- ---- a look that tells

ok-err : {A B : Type 0} (x : A) (r : B) → ◌≡◌ {A = Result A B} (Ok x) (Err r) → ⊥
ok-err x r e = absurd cc

told-by : {A : Type 0} (failed : Type 0) (Says : List Record → Result A Refusal → Type 0) (old new : Held) (x : A) → LookEnds failed (λ r. Err r) Says old new (Ok x) → IsSettled old new × Says new.list (Ok x)
told-by failed Says old new x (looked settled says) = (settled, says)
told-by failed Says old new x (unread why mends doubt is) = absurd (ok-err x refusal.KeepFault is)
told-by failed Says old new x (unlooked mends is) = absurd (ok-err x refusal.Memory is)

-- none is in doubt any more, and it is said of the list
pub look_told : {A : Type 0} (failed : Type 0) (Says : List Record → Result A Refusal → Type 0) (old new : Held) (x : A) → OneCall failed (λ r. Err r) (Looks Says) old new (Ok x) → IsSettled old new × Says new.list (Ok x)
look_told failed Says old new x call = told-by failed Says old new x (look_ends failed (λ r. Err r) Says old new (Ok x) call)
