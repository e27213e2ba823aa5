-- Calls at one list compose.
use Rattle.std.proofs.Common.{◌≡◌, ◌⊎◌, inl, inr, true, List, [], ◌∷◌, ◌++◌, Option, Some, None, length, length-append, refl, sym, ap, ◌∙◌, subst, arith, is_some}
use Rattle.qz_grading.specs.declared.refusal.Refusal.{Refusal}
use Rattle.qz_grading.specs.declared.refusal.Refusal.TheVariants as refusal
use Rattle.qz_terms.specs.declared.record.Record.{Record}
use Rattle.qz_terms.specs.declared.reply.Reply.TheVariants as reply
use Rattle.qz_terms.specs.Serial.{Held, Mended, adopted, dropped, stays}
use Rattle.qz_keeper.specs.Lists.{CallEnds, IsSettled, Looks, OneCall, answered, no_memory, put_in_doubt, stayed_in_doubt}
use Rattle.qz_serial.specs.Calls.{CallsCompose, CallsMean, CatalogAnswers, LookEnds, LooksAreCalls, LooksCompose, RepliesCompose, ShardAnswers, looked, unlooked, unread}

-- ---- a list that needs no mending

pub none-some : {A : Type 0} (o : Option A) → o ≡ None → is_some o ≡ true → ⊥
none-some None none some = absurd cc
none-some (Some x) none some = absurd cc

some-none : {A : Type 0} (x : A) → Some x ≡ None → ⊥
some-none x e = absurd cc

pub mended_same : (old new : Held) → Mended old new → old.doubt ≡ None → new ≡ old
mended_same old new (stays k) clear = refl
mended_same old new (dropped l x) clear = absurd (some-none x clear)
mended_same old new (adopted l x) clear = absurd (some-none x clear)

pub settled_call : {A : Type 0} (failed : Type 0) (refused : Refusal → A) (Answers : List Record → A → List Record → Type 0) (old new : Held) (told : A) → old.doubt ≡ None → OneCall failed refused Answers old new told → CallEnds failed refused Answers old new told
settled_call failed refused Answers old new told clear call = subst (λ (m : Held). CallEnds failed refused Answers m new told) (mended_same old call.mended call.mends clear) call.ends

-- ---- looks

no-longer : (l : List Record) (x : Record) → l ++ x ∷ [] ≡ l → ⊥
no-longer l x e = let more = length-append l (x ∷ []) in let same = ap length e in absurd (omega arith)

same_held : (m new : Held) → new.list ≡ m.list → new.doubt ≡ None → m.doubt ≡ None → new ≡ m
same_held m new list clear was = ap (λ (l : List Record). let h : Held = record { list = l; doubt = new.doubt } in h) list ∙ ap (λ (d : Option Record). let h : Held = record { list = m.list; doubt = d } in h) (clear ∙ sym was)

look_by : {A : Type 0} (failed : Type 0) (refused : Refusal → A) (Says : List Record → A → Type 0) (old m new : Held) (told : A) → Mended old m → CallEnds failed refused (Looks Says) m new told → LookEnds failed refused Says old new told
look_by failed refused Says old m new told mends (answered was clear both) =
    let same = same_held m new both.1 clear was in
    looked (record { mends = subst (Mended old) (sym same) mends; no_doubt = clear }) (subst (λ (l : List Record). Says l told) (sym both.1) both.0)
look_by failed refused Says old m new told mends (put_in_doubt why answer r was both is said) = absurd (no-longer m.list r both.1)
look_by failed refused Says old m new told mends (stayed_in_doubt why doubt is said) = unread why (subst (Mended old) (sym is) mends) (subst (λ (h : Held). is_some h.doubt ≡ true) (sym is) doubt) said
look_by failed refused Says old m new told mends (no_memory is said) = unlooked (subst (Mended old) (sym is) mends) said

pub look_ends : {A : Type 0} (failed : Type 0) (refused : Refusal → A) (Says : List Record → A → Type 0) (old new : Held) (told : A) → OneCall failed refused (Looks Says) old new told → LookEnds failed refused Says old new told
look_ends failed refused Says old new told call = look_by failed refused Says old call.mended new told call.mends call.ends

still_by : {A : Type 0} (failed : Type 0) (refused : Refusal → A) (Says : List Record → A → Type 0) (old new : Held) (told : A) → old.doubt ≡ None → LookEnds failed refused Says old new told → (new ≡ old) × (Says old.list told ⊎ (told ≡ refused refusal.Memory))
still_by failed refused Says old new told clear (looked settled says) =
    let same = mended_same old new settled.mends clear in
    (same, inl (subst (λ (h : Held). Says h.list told) same says))
still_by failed refused Says old new told clear (unread why mends doubt said) =
    let same = mended_same old new mends clear in
    absurd (none-some new.doubt (ap (λ (h : Held). h.doubt) same ∙ clear) doubt)
still_by failed refused Says old new told clear (unlooked mends said) = (mended_same old new mends clear, inr said)

-- ---- calls one after the other

pub after_settled : {A : Type 0} (failed : Type 0) (refused : Refusal → A) (Answers : List Record → A → List Record → Type 0) (old mid new : Held) (told : A) → IsSettled old mid → OneCall failed refused Answers mid new told → OneCall failed refused Answers old new told
after_settled failed refused Answers old mid new told settled call = record { mended = mid; mends = settled.mends; ends = settled_call failed refused Answers mid new told settled.no_doubt call }

look_alone : {A B : Type 0} (failed : Type 0) (refused : Refusal → A) (Says : List Record → A → Type 0) (also : Refusal → B) (Answers : List Record → B → List Record → Type 0) (old new : Held) (told : A) (said : B)
    → LookEnds failed refused Says old new told → (Says new.list told → Answers new.list said new.list) → ((r : Refusal) → told ≡ refused r → said ≡ also r) → OneCall failed also Answers old new said
look_alone failed refused Says also Answers old new told said (looked settled says) whole same = record { mended = new; mends = settled.mends; ends = answered settled.no_doubt settled.no_doubt (whole says) }
look_alone failed refused Says also Answers old new told said (unread why mends doubt is) whole same = record { mended = new; mends = mends; ends = stayed_in_doubt why doubt refl (same refusal.KeepFault is) }
look_alone failed refused Says also Answers old new told said (unlooked mends is) whole same = record { mended = new; mends = mends; ends = no_memory refl (same refusal.Memory is) }

cause_by : {A : Type 0} (failed : Type 0) (refused : Refusal → A) (Answers : List Record → A → List Record → Type 0) (m new : Held) (told : A)
    → CallEnds failed refused Answers m new told → ((h g : List Record) → Answers h told g → ⊥) → failed ⊎ (told ≡ refused refusal.Memory)
cause_by failed refused Answers m new told (answered was clear is) none = absurd (none m.list new.list is)
cause_by failed refused Answers m new told (put_in_doubt why answer r was is new_is said) none = inl why
cause_by failed refused Answers m new told (stayed_in_doubt why doubt is said) none = inl why
cause_by failed refused Answers m new told (no_memory is said) none = inr said

pub calls_compose : {A : Type 0} (failed : Type 0) (refused : Refusal → A) (Answers : List Record → A → List Record → Type 0) → CallsCompose failed refused Answers
calls_compose failed refused Answers = record {
  settled = settled_call failed refused Answers;
  after = after_settled failed refused Answers;
  wanting = λ old new mends. record { mended = new; mends = mends; ends = no_memory refl refl };
  cause = λ old new told call none. cause_by failed refused Answers call.mended new told call.ends none;
}

pub looks_compose : {A : Type 0} (failed : Type 0) (refused : Refusal → A) (Says : List Record → A → Type 0) → LooksCompose failed refused Says
looks_compose failed refused Says = record {
  ends = look_ends failed refused Says;
  still = λ old new told clear call. still_by failed refused Says old new told clear (look_ends failed refused Says old new told call);
}

pub looks_are_calls : {A B : Type 0} (failed : Type 0) (refused : Refusal → A) (Says : List Record → A → Type 0) (also : Refusal → B) (Answers : List Record → B → List Record → Type 0) → LooksAreCalls failed refused Says also Answers
looks_are_calls failed refused Says also Answers = record { alone = look_alone failed refused Says also Answers }

pub replies_compose : (failed : Type 0) → RepliesCompose failed
replies_compose failed = record {
  records = λ now user ask. calls_compose failed reply.Refused (CatalogAnswers now user ask);
  shard = λ c now user ask. calls_compose failed reply.Refused (ShardAnswers c now user ask);
}

-- ---- other answers

pub ends_mean : {A : Type 0} (failed worse : Type 0) (refused : Refusal → A) (Answers Others : List Record → A → List Record → Type 0) (m new : Held) (told : A)
    → (failed → worse) → ((t : A) (g : List Record) → Answers m.list t g → Others m.list t g) → CallEnds failed refused Answers m new told → CallEnds worse refused Others m new told
ends_mean failed worse refused Answers Others m new told to each (answered was clear is) = answered was clear (each told new.list is)
ends_mean failed worse refused Answers Others m new told to each (put_in_doubt why answer r was is new_is said) = put_in_doubt (to why) answer r was (each answer (m.list ++ r ∷ []) is) new_is said
ends_mean failed worse refused Answers Others m new told to each (stayed_in_doubt why doubt is said) = stayed_in_doubt (to why) doubt is said
ends_mean failed worse refused Answers Others m new told to each (no_memory is said) = no_memory is said

pub calls_mean : {A : Type 0} (failed worse : Type 0) (refused : Refusal → A) (Answers Others : List Record → A → List Record → Type 0) → CallsMean failed worse refused Answers Others
calls_mean failed worse refused Answers Others = record {
  each = λ old new told to all call. record { mended = call.mended; mends = call.mends; ends = ends_mean failed worse refused Answers Others call.mended new told to (all call.mended.list) call.ends };
  after = λ old mid new told to settled here call. record {
    mended = mid;
    mends = settled.mends;
    ends = ends_mean failed worse refused Answers Others mid new told to here (settled_call failed refused Answers mid new told settled.no_doubt call);
  };
}
