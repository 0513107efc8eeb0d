-- Nodes, put into a map by the places of their packages.
use Rattle.std.proofs.Common.{◌≡◌, ◌==◌, ℕ, Bool, true, false, cond, List, [], ◌∷◌, map, BTreeMap, Option, Some, None, option_map, option_copied, Ordering, Less, Equal, Greater, Ok, Err, nat_cmp, refl, sym, ap, ◌∙◌}
use Rattle.std.specs.Borrow.{Bor}
use Rattle.std.specs.Map.{lookup}
use Rattle.std.specs.BTreeMap.{is_at, insert_entry}
use Rattle.std.specs.Ordering.{is_eq, match_ordering}
use Rattle.serde_json.specs.Data.{Data, Items, item}
use Rattle.hack_metadata.specs.Fields.{read_all}
use Rattle.hack_base.specs.FieldReadings.{◌>>=◌, FieldReading}
use Rattle.hack_metadata.specs.MetadataReading.{with_nodes}
use Rattle.hack_metadata.specs.Records.{NodeDepRecord, Nodes, node_at}
use Rattle.hack_metadata.specs.RecordViews.{node_view, nodes_view}
use Rattle.hack_metadata.proofs.IdLemmas.{cmp-eq}
use Rattle.hack_metadata.specs.contracts.metadata.resolve.PackageIdOrd.TheImpl as ord
use Rattle.hack_metadata.specs.declared.metadata.resolve.Node.{Node}
use Rattle.hack_metadata.specs.declared.metadata.resolve.PackageId.{PackageId}

-- ids are ordered by their places
pub order-at : (a b : PackageId) → ord.cmp-value.it a b ≡ nat_cmp a.index b.index
order-at a b = refl

abbrev seen : List (PackageId × Node) → Nodes
seen es = map (λ e. (e.0.index, node_view e.1)) es

seen-match : (o : Ordering) (a b c : List (PackageId × Node)) → seen (match_ordering o a b c) ≡ match_ordering o (seen a) (seen b) (seen c)
seen-match Less a b c = refl
seen-match Equal a b c = refl
seen-match Greater a b c = refl

-- to insert a node into the map is to insert its plain data into the plain data of the map
pub seen-insert : (es : List (PackageId × Node)) (id : PackageId) (node : Node) → seen (insert_entry ord.cmp-value.it es id node) ≡ insert_entry nat_cmp (seen es) id.index (node_view node)
seen-insert [] id node = refl
seen-insert (e ∷ es) id node = seen-match (ord.cmp-value.it id e.0) _ _ _ ∙ rw (seen-insert es id node, order-at id e.0) refl

pub nodes-insert : (m n : BTreeMap PackageId Node) (id : PackageId) (node : Node) → n.entries ≡ insert_entry ord.cmp-value.it m.entries id node → nodes_view n ≡ insert_entry nat_cmp (nodes_view m) id.index (node_view node)
nodes-insert m n id node e = ap seen e ∙ seen-insert m.entries id node

-- the node that is read first is inserted first
put_first : (m n : Nodes) (at : ℕ) (node : List NodeDepRecord) (read : FieldReading (List (ℕ × List NodeDepRecord))) → n ≡ insert_entry nat_cmp m at node → (read >>= λ more. Ok (with_nodes n more)) ≡ ((read >>= λ more. Ok ((at, node) ∷ more)) >>= λ more. Ok (with_nodes m more))
put_first m n at node (Ok more) e = ap (λ nodes. Ok (with_nodes nodes more)) e
put_first m n at node (Err name) e = refl

-- one pass of the loop over nodes
pub nodes-turn : (f : Data → FieldReading (ℕ × List NodeDepRecord)) (d : Data) (left rest : Items) (m n : Nodes) (at : ℕ) (node : List NodeDepRecord) (whole : FieldReading Nodes)
    → left ≡ item d rest → f d ≡ Ok (at, node) → n ≡ insert_entry nat_cmp m at node
    → (read_all f left >>= λ more. Ok (with_nodes m more)) ≡ whole → (read_all f rest >>= λ more. Ok (with_nodes n more)) ≡ whole
nodes-turn f d left rest m n at node whole first reads put before =
    put_first m n at node (read_all f rest) put
    ∙ ap (λ found. (found >>= λ x. read_all f rest >>= λ xs. Ok (x ∷ xs)) >>= λ more. Ok (with_nodes m more)) (sym reads)
    ∙ ap (λ l. read_all f l >>= λ more. Ok (with_nodes m more)) (sym first)
    ∙ before

found-seen : (b c : Bool) (e : PackageId × Node) (rest : Option Node) (more : Option (List NodeDepRecord)) → b ≡ c → option_map node_view rest ≡ more
    → option_map node_view (cond b (Some e.1) rest) ≡ cond c (Some (node_view e.1)) more
found-seen true c e rest more same h = rw (sym same) refl
found-seen false c e rest more same h = rw (sym same) h

-- the node that a map has for an id, as plain data
pub node-seen : (es : List (PackageId × Node)) (id : PackageId) → option_map node_view (lookup (is_at (ord.cmp-value.it id)) es) ≡ node_at (seen es) id.index
node-seen [] id = refl
node-seen (e ∷ es) id =
    found-seen (is_at (ord.cmp-value.it id) e.0) (id.index == e.0.index) e (lookup (is_at (ord.cmp-value.it id)) es) (node_at (seen es) id.index)
    (ap is_eq (order-at id e.0) ∙ cmp-eq id.index e.0.index) (node-seen es id)

pub node-found : (r : Option (Bor Node)) (m : BTreeMap PackageId Node) (id : PackageId) → option_copied r ≡ lookup (is_at (ord.cmp-value.it id)) m.entries → option_map (λ n. node_view n.now) r ≡ node_at (nodes_view m) id.index
node-found r m id e = shown r ∙ ap (option_map node_view) e ∙ node-seen m.entries id
  where
    shown : (r : Option (Bor Node)) → option_map (λ n. node_view n.now) r ≡ option_map node_view (option_copied r)
    shown None = refl
    shown (Some x) = refl
