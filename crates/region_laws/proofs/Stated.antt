-- The laws that speak of an instance of a generic.
use Rattle.region_laws.specs.Laws.{TypedByAxes, TiledGenericIsTile, BodyDoesTile, BodyOfWholeOutput, BodyNotesTile, TileIsMade, TileOfSliceIsMade, TileIsInserted, TileForMeansGeneric, TileForallMeansGeneric}
use Rattle.region_laws.proofs.Extents.{typed_by}
use Rattle.region_laws.proofs.Inner.{inner_is}
use Rattle.region_laws.proofs.TileLoops.{tile_for_is, tile_forall}
use Rattle.region_laws.proofs.Tilings.{sliced_body, whole_body, noted_body, made_tile, tile_of_slice, inserted_tile}

pub typed_instance : TypedByAxes
typed_instance g f = typed_by g.box g.maps g.ds g.ins g.width g.out f

pub tiled_generic : TiledGenericIsTile
tiled_generic g typed cut os ns c captured payload moves s = inner_is g.box g.maps g.ds g.ins g.width g.captured g.payload cut os ns c captured payload moves g.out s typed

pub does_tile : BodyDoesTile
does_tile g cut os ns M t b d arg x c o n new =
    sliced_body g.box g.maps g.ds g.ins g.width g.captured g.payload g.out d.typed b.iterators d.rank cut os ns d.within M t b.inputs b.names b.captured b.payload d.body b.kind d.means
    arg x c n.id n.insertion n.end n.result n.inserted n.ty n.inserted_ty o.known o.holds o.slice new

pub does_whole : BodyOfWholeOutput
does_whole g cut os ns M t b d arg x known holds extents n =
    whole_body g.box g.maps g.ds g.ins g.width g.captured g.payload g.out d.typed b.iterators d.rank cut os ns d.within M t b.inputs b.names b.captured b.payload d.body b.kind d.means
    arg x n.id n.end n.result n.ty known holds extents

pub notes_one : BodyNotesTile
notes_one g cut os ns M t b d arg x c o n new =
    noted_body g.box g.maps g.ds g.ins g.width g.captured g.payload g.out d.typed b.iterators d.rank cut os ns d.within M t b.inputs b.names b.captured b.payload d.body b.kind d.means
    arg x c n.id n.insertion n.result n.ty o.known o.holds o.slice new

pub makes_one : TileIsMade
makes_one g cut os ns M t b d arg x c o n new =
    made_tile g.box g.maps g.ds g.ins g.width g.captured g.payload g.out d.typed b.iterators d.rank cut os ns d.within M t b.inputs b.names b.captured b.payload d.body b.kind d.means
    arg x c n.id n.result n.ty o.known o.holds o.slice new

pub makes_of_slice : TileOfSliceIsMade
makes_of_slice g cut os ns M t b d v x known holds n new =
    tile_of_slice g.box g.maps g.ds g.ins g.width g.captured g.payload g.out d.typed b.iterators d.rank cut os ns d.within M t b.inputs b.names b.captured b.payload d.body b.kind d.means
    v x n.id n.result n.ty known holds new

pub inserts_one : TileIsInserted
inserts_one g cut os ns M t b d arg x c o n new new' =
    inserted_tile g.box g.maps g.ds g.ins g.width g.captured g.payload g.out d.typed b.iterators d.rank cut os ns d.within M t b.inputs b.names b.captured b.payload d.body b.kind d.means
    arg x c n.id n.insertion n.result n.inserted n.ty n.inserted_ty o.known o.holds o.slice new new'

pub tile_for : TileForMeansGeneric
tile_for g ts typed full one adds N u lower ty l ls current inner n ways =
    tile_for_is g.box ts g.maps g.ds g.ins g.width g.captured g.payload g.out typed full one adds lower ty inner current l ls N u n ways

pub tile_forall_is : TileForallMeansGeneric
tile_forall_is g ts typed full cuts u vs lower upper stride arg outs ty inner rs =
    tile_forall g.box ts g.maps g.ds g.ins g.width g.captured g.payload g.out typed full vs lower upper stride arg outs ty inner rs u cuts
