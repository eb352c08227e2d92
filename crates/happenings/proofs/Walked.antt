-- What a walk over a map leaves that changes each value and keeps all of them.
use Rattle.std.proofs.Common.{◌≡◌, Bool, true, false, cond, List, [], ◌∷◌, ap, ◌∙◌, refl, subst, Option, Some, None}
use Rattle.std.specs.Prelude.{option_map}
use Rattle.std.specs.Map.{lookup}
use Rattle.std.specs.Map.Calls.{RetainsPairs}

at_first : {X Y : Type 0} (read : X → Y) (change : Y → Y) (b : Bool) (v w : X) (old new : Option X) → read w ≡ change (read v)
    → option_map read new ≡ option_map change (option_map read old) → option_map read (cond b (Some w) new) ≡ option_map change (option_map read (cond b (Some v) old))
at_first read change true v w old new here rest = ap Some here
at_first read change false v w old new here rest = rest

same_read : {Y : Type 0} (o : Option Y) → option_map (λ y. y) o ≡ o
same_read None = refl
same_read (Some y) = refl

-- what is read of each value has changed as told
pub walked : {F K X Y : Type 0} (T : F → K → X → Bool → X → F → Type 0) (read : X → Y) (change : Y → Y) (test : K → Bool) (f : F)
    → ((k : K) (v : X) (b : Bool) (w : X) (f' : F) → T f k v b w f' → (b ≡ true) × (read w ≡ change (read v)) × (f' ≡ f)) → (es kept : List (K × X)) → RetainsPairs T f es kept
    → option_map read (lookup test kept) ≡ option_map change (option_map read (lookup test es))
walked T read change test f call [] kept walk = ap (λ l. option_map read (lookup test l)) walk
walked T read change test f call (e ∷ es) kept walk =
    let here = call e.0 e.1 walk.0 walk.1 walk.2 walk.4 in
    let rest = walked T read change test f call es walk.3 (subst (λ u. RetainsPairs T u es walk.3) here.2 walk.5) in
    ap (λ l. option_map read (lookup test l)) (walk.6 ∙ ap (λ b. cond b ((e.0, walk.1) ∷ walk.3) walk.3) here.0)
    ∙ at_first read change (test e.0) e.1 walk.1 (lookup test es) (lookup test walk.3) here.1 rest

-- or it is as it was
pub walked_same : {F K X Y : Type 0} (T : F → K → X → Bool → X → F → Type 0) (read : X → Y) (test : K → Bool) (f : F)
    → ((k : K) (v : X) (b : Bool) (w : X) (f' : F) → T f k v b w f' → (b ≡ true) × (read w ≡ read v) × (f' ≡ f)) → (es kept : List (K × X)) → RetainsPairs T f es kept
    → option_map read (lookup test kept) ≡ option_map read (lookup test es)
walked_same T read test f call es kept walk = walked T read (λ y. y) test f call es kept walk ∙ same_read (option_map read (lookup test es))
